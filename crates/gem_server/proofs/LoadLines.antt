-- The lines of a text that is made of lines, and those of a load.
use Rattle.std.proofs.Common.{◌≡◌, ℕ, zero, suc, ◌+◌, ◌≤◌, Bool, true, false, ◌&&◌, not, cond, ◌==◌, List, [], ◌∷◌, ◌++◌, map, refl, sym, ap, subst, ◌∙◌, codes, arith}
use Rattle.std.specs.Fmt.{decimal}
use Rattle.std.specs.List.{AllByRecursion, list_all, flat_map, slice_split, onto_first}
use Rattle.std.proofs.lemmas.Bool.{and_parts, not-true}
use Rattle.std.proofs.lemmas.Fmt.{decimal_digit}
use Rattle.gem_meaning.specs.texts.Bytes.{Bytes}
use Rattle.gem_meaning.specs.texts.Lines.{text_of_lines}
use Rattle.gem_meaning.specs.shell_words.Lines.{is_line_feed, full_parts, without_return, lines_of}
use Rattle.load_maker.specs.Scripts.{round_lines, session_lines}
use Rattle.gem_server.proofs.LoadWalk.{IsDigit}

-- ---- lines without LF and CR

abbrev is_flat_byte : ℕ → Bool
is_flat_byte b = not (b == 10) && not (b == 13)

abbrev pub IsFlat : Bytes → Type 0
IsFlat line = list_all is_flat_byte line ≡ true

split_line : (line rest : Bytes) → IsFlat line → slice_split is_line_feed ((line ++ 10 ∷ []) ++ rest) ≡ line ∷ slice_split is_line_feed rest
split_line [] rest flat = refl
split_line (b ∷ line) rest flat =
    let parts = and_parts (is_flat_byte b) (list_all is_flat_byte line) flat in
    let here = and_parts (not (b == 10)) (not (b == 13)) parts.0 in
    ap (λ (feed : Bool). cond feed ([] ∷ slice_split is_line_feed ((line ++ 10 ∷ []) ++ rest))
    (onto_first b (slice_split is_line_feed ((line ++ 10 ∷ []) ++ rest)))) (not-true (b == 10) here.0)
    ∙ ap (onto_first b) (split_line line rest parts.1)

some_part : (text : Bytes) → slice_split is_line_feed text ≡ [] → ⊥
some_part [] none = absurd cc
some_part (b ∷ text) none = by (is_line_feed b) (slice_split is_line_feed text) none
  where
    by : (feed : Bool) (parts : List Bytes) → cond feed ([] ∷ parts) (onto_first b parts) ≡ [] → ⊥
    by true parts none = absurd cc
    by false [] none = absurd cc
    by false (part ∷ parts) none = absurd cc

part_before : (part : Bytes) (parts : List Bytes) → (parts ≡ [] → ⊥) → full_parts (part ∷ parts) ≡ part ∷ full_parts parts
part_before part [] some = absurd (some refl)
part_before part (next ∷ parts) some = refl

no_return : (line : Bytes) → IsFlat line → without_return line ≡ line
no_return [] flat = refl
no_return (b ∷ []) flat =
    let parts = and_parts (is_flat_byte b) true flat in
    let here = and_parts (not (b == 10)) (not (b == 13)) parts.0 in
    ap (λ (back : Bool). cond back [] (b ∷ [])) (not-true (b == 13) here.1)
no_return (b ∷ c ∷ line) flat =
    let parts = and_parts (is_flat_byte b) (list_all is_flat_byte (c ∷ line)) flat in
    ap (λ (rest : Bytes). b ∷ rest) (no_return (c ∷ line) parts.1)

-- a text of such lines has these lines
pub lines_are : (lines : List Bytes) → AllByRecursion IsFlat lines → lines_of (text_of_lines lines) ≡ lines
lines_are [] flat = refl
lines_are (line ∷ lines) flat =
    ap (λ (parts : List Bytes). map without_return (full_parts parts)) (split_line line (text_of_lines lines) flat.0)
    ∙ ap (map without_return) (part_before line (slice_split is_line_feed (text_of_lines lines)) (some_part (text_of_lines lines)))
    ∙ ap (λ (first : Bytes). first ∷ lines_of (text_of_lines lines)) (no_return line flat.0)
    ∙ ap (λ (rest : List Bytes). line ∷ rest) (lines_are lines flat.1)

-- ---- the lines of a load

-- what holds of the texts of the nine numbers
pub of_digit : (P : Bytes → Type 0) → ((n : ℕ) → 1 ≤ n → n ≤ 9 → P ((48 + n) ∷ [])) → (number : ℕ) → IsDigit number → P (decimal number)
of_digit P each number digit =
    let to = digit.1 in subst P (sym (decimal_digit number (omega (arith, to)))) (each number digit.0 digit.1)

abbrev pub round_line : Bytes → Bytes
round_line digits = codes "Hits incrementBy: " ++ digits ++ codes ". Names add: #n" ++ digits

flat_with : (n : ℕ) → 1 ≤ n → n ≤ 9 → IsFlat (round_line ((48 + n) ∷ []))
flat_with zero from to = absurd (omega (arith, from))
flat_with (suc zero) from to = refl
flat_with (suc (suc zero)) from to = refl
flat_with (suc (suc (suc zero))) from to = refl
flat_with (suc (suc (suc (suc zero)))) from to = refl
flat_with (suc (suc (suc (suc (suc zero))))) from to = refl
flat_with (suc (suc (suc (suc (suc (suc zero)))))) from to = refl
flat_with (suc (suc (suc (suc (suc (suc (suc zero))))))) from to = refl
flat_with (suc (suc (suc (suc (suc (suc (suc (suc zero)))))))) from to = refl
flat_with (suc (suc (suc (suc (suc (suc (suc (suc (suc zero))))))))) from to = refl
flat_with (suc (suc (suc (suc (suc (suc (suc (suc (suc (suc n)))))))))) from to = absurd (omega (arith, to))

all_both : {X : Type 0} (P : X → Type 0) (first second : List X) → AllByRecursion P first → AllByRecursion P second
    → AllByRecursion P (first ++ second)
all_both P [] second one other = other
all_both P (x ∷ first) second one other = (one.0, all_both P first second one.1 other)

rounds_flat : (numbers : List ℕ) → AllByRecursion IsDigit numbers → AllByRecursion IsFlat (flat_map round_lines numbers)
rounds_flat [] digits = tt
rounds_flat (number ∷ numbers) digits =
    (refl, (of_digit (λ text. IsFlat (round_line text)) flat_with number digits.0, (refl, (refl, rounds_flat numbers digits.1))))

pub sessions_flat : (all : List (List ℕ)) → AllByRecursion (AllByRecursion IsDigit) all → AllByRecursion IsFlat (flat_map session_lines all)
sessions_flat [] digits = tt
sessions_flat (numbers ∷ all) digits =
    (refl, all_both IsFlat (flat_map round_lines numbers) (flat_map session_lines all) (rounds_flat numbers digits.0) (sessions_flat all digits.1))

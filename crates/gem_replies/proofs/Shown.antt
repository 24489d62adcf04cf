-- What is shown of a text from the image: no byte of it leaves the line, and it can be read back.
use Rattle.std.proofs.Common.{◌≡◌, ◌≢◌, ℕ, ◌+◌, ◌-◌, ◌*◌, ◌/◌, ◌%◌, ◌<◌, ◌≤◌, Bool, true, false, ◌==◌, ◌||◌, nat_lt, if◌then◌else◌, [], ◌∷◌, ◌++◌, drop, get_or, refl, ap, ap₂, sym, ◌∙◌, codes, true≢false, arith}
use Rattle.std.proofs.lemmas.Bool.Decides.{nat_tests}
use Rattle.std.specs.List.{AllByRecursion}
use Rattle.std.specs.Fmt.{digit_glyph}
use Rattle.gem_object.specs.texts.Bytes.{Bytes}
use Rattle.gem_replies.specs.Escapes.{two_digits, escape, escaped, IsShown}

-- the tests that `escape` makes
control_is_small : (byte : ℕ) → (nat_lt byte 32 || byte == 127) ≡ true → byte < 128
control_is_small byte e = grind (arith, nat_tests)

other_is_shown : (byte : ℕ) → (nat_lt byte 32 || byte == 127) ≡ false → IsShown byte
other_is_shown byte e = (grind (arith, nat_tests), grind (arith, nat_tests))

is_that : (byte other : ℕ) → (byte == other) ≡ true → other ≡ byte
is_that byte other e = grind (arith, nat_tests)

-- digits
glyph_by : (is_decimal : Bool) (d : ℕ) → d < 16 → IsShown (if is_decimal then 48 + d else (if false then 55 + d else 87 + d))
glyph_by true d below = (omega arith, omega arith)
glyph_by false d below = (omega arith, omega arith)

glyph_is_shown : (d : ℕ) → d < 16 → IsShown (digit_glyph false d)
glyph_is_shown d below = glyph_by (nat_lt d 10) d below

abbrev digit_of : ℕ → ℕ
digit_of glyph = if nat_lt glyph 58 then glyph - 48 else glyph - 87

abbrev is_empty : Bytes → Bool
is_empty [] = true
is_empty (x ∷ xs) = false

nothing_is_filled : {x : ℕ} {xs : Bytes} → [] ≡ x ∷ xs → ⊥
nothing_is_filled e = true≢false (ap is_empty e)

-- no byte leaves the line
all_append : (xs ys : Bytes) → AllByRecursion IsShown xs → AllByRecursion IsShown ys → AllByRecursion IsShown (xs ++ ys)
all_append [] ys all more = more
all_append (x ∷ xs) ys all more = (all.0, all_append xs ys all.1 more)

shown : (byte : ℕ) → 32 ≤ byte → byte ≢ 127 → IsShown byte
shown byte low other = (low, other)

escape_by : (lf slash control : Bool) (byte : ℕ) → (control ≡ true → byte < 128) → (control ≡ false → IsShown byte)
    → AllByRecursion IsShown (if lf then codes "\\n" else (if slash then codes "\\\\" else (if control then codes "\\x" ++ two_digits byte else byte ∷ [])))
escape_by true slash control byte small other = (shown 92 (omega arith) (omega arith), (shown 110 (omega arith) (omega arith), tt))
escape_by false true control byte small other = (shown 92 (omega arith) (omega arith), (shown 92 (omega arith) (omega arith), tt))
escape_by false false true byte small other =
    let below : byte < 128 = small refl in (
      shown 92 (omega arith) (omega arith),
      (
        shown 120 (omega arith) (omega arith),
        (glyph_is_shown (byte / 16) (omega arith), (glyph_is_shown (byte % 16) (omega arith), tt)),
      ),
    )
escape_by false false false byte small other = (other refl, tt)

escape_is_shown : (byte : ℕ) → AllByRecursion IsShown (escape byte)
escape_is_shown byte = escape_by (byte == 10) (byte == 92) (nat_lt byte 32 || byte == 127) byte (control_is_small byte) (other_is_shown byte)

pub text_is_shown : (text : Bytes) → AllByRecursion IsShown (escaped text)
text_is_shown [] = tt
text_is_shown (byte ∷ text) = all_append (escape byte) (escaped text) (escape_is_shown byte) (text_is_shown text)

-- The first byte of a text, and what is shown of the rest, from what is shown of the text.
abbrev first_of : Bytes → ℕ
first_of text = if get_or text 0 0 == 92 then (if get_or text 1 0 == 110 then 10
    else (if get_or text 1 0 == 92 then 92 else digit_of (get_or text 2 0) * 16 + digit_of (get_or text 3 0)))
    else get_or text 0 0

abbrev rest_of : Bytes → Bytes
rest_of text = if get_or text 0 0 == 92 then (if get_or text 1 0 == 120 then drop 4 text else drop 2 text) else drop 1 text

digit_by : (d : ℕ) → d < 16 → digit_of (digit_glyph false d) ≡ d
digit_by d below = grind (arith, nat_tests)

digits_back : (byte : ℕ) → byte < 128 → digit_of (digit_glyph false (byte / 16)) * 16 + digit_of (digit_glyph false (byte % 16)) ≡ byte
digits_back byte below =
    let high : byte / 16 < 16 = omega arith in
    let low : byte % 16 < 16 = omega arith in
    ap₂ (λ h l. h * 16 + l) (digit_by (byte / 16) high) (digit_by (byte % 16) low) ∙ whole byte
  where
    whole : (n : ℕ) → n / 16 * 16 + n % 16 ≡ n
    whole n = omega arith

first_by : (lf slash control : Bool) (byte : ℕ) (more : Bytes) → (byte == 10) ≡ lf → (byte == 92) ≡ slash → (control ≡ true → byte < 128)
    → first_of ((if lf then codes "\\n" else (if slash then codes "\\\\" else (if control then codes "\\x" ++ two_digits byte else byte ∷ []))) ++ more) ≡ byte
first_by true slash control byte more is_lf is_slash small = is_that byte 10 is_lf
first_by false true control byte more is_lf is_slash small = is_that byte 92 is_slash
first_by false false true byte more is_lf is_slash small = digits_back byte (small refl)
first_by false false false byte more is_lf is_slash small =
    ap (λ test. if test then (if get_or (byte ∷ more) 1 0 == 110 then 10
    else (if get_or (byte ∷ more) 1 0 == 92 then 92 else digit_of (get_or (byte ∷ more) 2 0) * 16 + digit_of (get_or (byte ∷ more) 3 0)))
    else byte) is_slash

rest_by : (lf slash control : Bool) (byte : ℕ) (more : Bytes) → (byte == 92) ≡ slash
    → rest_of ((if lf then codes "\\n" else (if slash then codes "\\\\" else (if control then codes "\\x" ++ two_digits byte else byte ∷ []))) ++ more) ≡ more
rest_by true slash control byte more is_slash = refl
rest_by false true control byte more is_slash = refl
rest_by false false true byte more is_slash = refl
rest_by false false false byte more is_slash =
    ap (λ test. if test then (if get_or (byte ∷ more) 1 0 == 120 then drop 4 (byte ∷ more) else drop 2 (byte ∷ more)) else more) is_slash

first_back : (byte : ℕ) (more : Bytes) → first_of (escape byte ++ more) ≡ byte
first_back byte more = first_by (byte == 10) (byte == 92) (nat_lt byte 32 || byte == 127) byte more refl refl (control_is_small byte)

rest_back : (byte : ℕ) (more : Bytes) → rest_of (escape byte ++ more) ≡ more
rest_back byte more = rest_by (byte == 10) (byte == 92) (nat_lt byte 32 || byte == 127) byte more refl

-- what is shown of a byte is not nothing
filled_by : (lf slash control : Bool) (byte : ℕ) (more : Bytes)
    → [] ≡ (if lf then codes "\\n" else (if slash then codes "\\\\" else (if control then codes "\\x" ++ two_digits byte else byte ∷ []))) ++ more → ⊥
filled_by true slash control byte more e = nothing_is_filled e
filled_by false true control byte more e = nothing_is_filled e
filled_by false false true byte more e = nothing_is_filled e
filled_by false false false byte more e = nothing_is_filled e

filled : (byte : ℕ) (more : Bytes) → [] ≡ escape byte ++ more → ⊥
filled byte more = filled_by (byte == 10) (byte == 92) (nat_lt byte 32 || byte == 127) byte more

-- texts that are shown alike are the same
pub same_text : (text other : Bytes) → escaped text ≡ escaped other → text ≡ other
same_text [] [] e = refl
same_text [] (b ∷ other) e = absurd (filled b (escaped other) e)
same_text (a ∷ text) [] e = absurd (filled a (escaped text) (sym e))
same_text (a ∷ text) (b ∷ other) e =
    let first : a ≡ b = sym (first_back a (escaped text)) ∙ ap first_of e ∙ first_back b (escaped other) in
    let rest : escaped text ≡ escaped other = sym (rest_back a (escaped text)) ∙ ap rest_of e ∙ rest_back b (escaped other) in
    ap₂ (λ x xs. x ∷ xs) first (same_text text other rest)

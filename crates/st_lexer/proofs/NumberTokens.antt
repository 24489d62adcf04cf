-- The bytes of a number token are those of a number.
use Rattle.std.proofs.Common.{◌≡◌, ℕ, zero, suc, ◌+◌, ◌<◌, ◌≤◌, Bool, true, false, cond, Option, Some, None}
use Rattle.std.proofs.Common.{[], ◌∷◌, length, take, drop, refl, sym, ap, ◌∙◌, arith, length-take}
use Rattle.std.specs.Prelude.{◌==◌, ◌&&◌, nat_lt, nat_le, not}
use Rattle.std.specs.List.{prefix_len, list_all}
use Rattle.std.specs.Char.{is_ascii_digit}
use Rattle.std.proofs.lemmas.Bool.{and_parts}
use Rattle.std.proofs.lemmas.Bool.Decides.{nat_tests}
use Rattle.std.proofs.lemmas.List.{take-take, drop-take}
use Rattle.std.proofs.Math.ListN.{drop_of_length-le}
use Rattle.texts.specs.Bytes.{Bytes}
use Rattle.texts.specs.NameBytes.{starts_name, is_name_byte}
use Rattle.texts.specs.declared.integers.TheConstants.{INTEGER_LIMIT}
use Rattle.texts.specs.declared.limits.TheConstants.{SYMBOL_LIMIT}
use Rattle.st_grammar.specs.Tokens.{Piece, token, bad, p3, number, Class, blank, comment, name, digit, quote}
use Rattle.st_grammar.specs.Tokens.{dollar, hash, operator, colon_mark, other, piece, piece_in, class_of}
use Rattle.st_grammar.specs.Tokens.{number_at, number_in, number_before, value_of, digit_value, is_radix_digit}
use Rattle.st_grammar.specs.Tokens.{are_digits, ends_number, begins, begins_with, comment_to, comment_end}
use Rattle.st_grammar.specs.Tokens.{string_to, string_end, string_bytes, sized, quoted_symbol, symbol_at}
use Rattle.st_grammar.specs.Tokens.{symbol_name, is_operator, is_keyword_end, word, character_at, colon_before, mark}
use Rattle.st_lexer.specs.Numbers.{IsNumber, front_len, front_value, has_radix}
use Rattle.st_lexer.proofs.Sizes.{on_cond}
use Rattle.st_lexer.proofs.Once.{token_len}

abbrev is_number : Piece → Bool
is_number (token number n) = true
is_number _ = false

both : (q : Piece) → is_number q ≡ true → is_number q ≡ false → ⊥
both q h i = cc

-- a choice between pieces that are no numbers is none
abbrev IsOther : Piece → Type 0
IsOther q = is_number q ≡ false

comment_other : (o : Option ℕ) → IsOther (comment_to o)
comment_other (Some n) = refl
comment_other None = refl

string_other : (o : Option ℕ) → IsOther (string_to o)
string_other (Some n) = refl
string_other None = refl

sized_other : (size n : ℕ) → IsOther (sized size n)
sized_other size n = on_cond IsOther (nat_le size SYMBOL_LIMIT) _ _ (λ _. refl) (λ _. refl)

quoted_other : (size : ℕ) (o : Option ℕ) → IsOther (quoted_symbol size o)
quoted_other size (Some n) = sized_other size (n + 2)
quoted_other size None = refl

symbol_other : (rest : Bytes) → IsOther (symbol_at rest)
symbol_other rest =
    on_cond IsOther (begins starts_name rest) _ _ (λ _. sized_other (symbol_name rest) (symbol_name rest + 1)) (λ _.
    on_cond IsOther (begins is_operator rest) _ _ (λ _. refl) (λ _.
    on_cond IsOther (begins_with 124 rest) _ _ (λ _. refl) (λ _.
    on_cond IsOther (begins_with 39 rest) _ _
    (λ _. quoted_other (length (string_bytes false (drop 1 rest))) (string_end false (drop 1 rest))) (λ _.
    on_cond IsOther (begins_with 40 rest) _ _ (λ _. refl) (λ _. refl)))))

mark_other : (b : ℕ) → IsOther (mark b)
mark_other b =
    on_cond IsOther (b == 124) _ _ (λ _. refl) (λ _.
    on_cond IsOther (b == 94) _ _ (λ _. refl) (λ _.
    on_cond IsOther (b == 59) _ _ (λ _. refl) (λ _.
    on_cond IsOther (b == 46) _ _ (λ _. refl) (λ _.
    on_cond IsOther (b == 40) _ _ (λ _. refl) (λ _.
    on_cond IsOther (b == 41) _ _ (λ _. refl) (λ _.
    on_cond IsOther (b == 91) _ _ (λ _. refl) (λ _.
    on_cond IsOther (b == 93) _ _ (λ _. refl) (λ _. refl))))))))

word_other : (text : Bytes) → IsOther (word text)
word_other text = on_cond IsOther (is_keyword_end (drop (prefix_len is_name_byte text) text)) _ _ (λ _. refl)
    (λ _. refl)

character_other : (rest : Bytes) → IsOther (character_at rest)
character_other rest = on_cond IsOther (begins (λ c. nat_le 32 c && nat_le c 126) rest) _ _ (λ _. refl) (λ _. refl)

colon_other : (rest : Bytes) → IsOther (colon_before rest)
colon_other rest = on_cond IsOther (begins_with 61 rest) _ _ (λ _. refl) (λ _. refl)

-- only a digit begins a number
of_class : (c : Class) (b : ℕ) (rest : Bytes) → is_number (piece_in c b rest) ≡ true
    → piece_in c b rest ≡ number_at (b ∷ rest)
of_class blank b rest h = cc
of_class comment b rest h = absurd (both (comment_to (comment_end rest)) h (comment_other (comment_end rest)))
of_class name b rest h = absurd (both (word (b ∷ rest)) h (word_other (b ∷ rest)))
of_class digit b rest h = refl
of_class quote b rest h = absurd (both (string_to (string_end false rest)) h (string_other (string_end false rest)))
of_class dollar b rest h = absurd (both (character_at rest) h (character_other rest))
of_class hash b rest h = absurd (both (symbol_at rest) h (symbol_other rest))
of_class operator b rest h = cc
of_class colon_mark b rest h = absurd (both (colon_before rest) h (colon_other rest))
of_class other b rest h = absurd (both (mark b) h (mark_other b))

number_begins : (bs : Bytes) (n : ℕ) → piece bs ≡ token number n → number_at bs ≡ token number n
number_begins [] n e = cc
number_begins (b ∷ rest) n e = sym (of_class (class_of b) b rest (ap is_number e)) ∙ e

-- a front of a text begins with as many bytes that pass, where it has them all
prefix_take : (p : ℕ → Bool) (bs : Bytes) (n : ℕ) → prefix_len p bs ≤ n → prefix_len p (take n bs) ≡ prefix_len p bs
prefix_take p [] zero h = refl
prefix_take p [] (suc n) h = refl
prefix_take p (b ∷ bs) zero h = omega arith
prefix_take p (b ∷ bs) (suc n) h =
    elim (p b) as (λ v. cond v (1 + prefix_len p bs) 0 ≤ suc n
    → cond v (1 + prefix_len p (take n bs)) 0 ≡ cond v (1 + prefix_len p bs) 0) [
      | true ↦ λ i. ap (λ m. 1 + m) (prefix_take p bs n (omega arith))
      | false ↦ λ i. refl
    ] h

-- numbers by their two forms
differ : {v : Bool} → v ≡ true → v ≡ false → ⊥
differ h i = cc

plain_number : (xs : Bytes) → begins_with 114 (drop (front_len xs) xs) ≡ false → front_value xs < INTEGER_LIMIT
    → IsNumber xs
plain_number xs none small = record { radix = λ some. absurd (differ some none); small = rw none small }

radix_number : (xs : Bytes) → has_radix xs → 1 ≤ front_value xs → front_value xs ≤ 36
    → value_of (front_value xs) (drop (front_len xs + 1) xs) < INTEGER_LIMIT → IsNumber xs
radix_number xs some low high small = record { radix = λ _. (low, high); small = rw some small }

before_parts : (m value : ℕ) (after : Bytes) (n : ℕ) → number_before m value after ≡ token number n
    → (m ≡ n) × (value < INTEGER_LIMIT)
before_parts m value after n =
    let P : Piece → Type 0 = λ q. q ≡ token number n → (m ≡ n) × (value < INTEGER_LIMIT) in
    on_cond P (ends_number after && nat_lt value INTEGER_LIMIT) (token number m) (bad p3)
    (λ t e.
    let parts = and_parts (ends_number after) (nat_lt value INTEGER_LIMIT) t in
    let test : nat_lt value INTEGER_LIMIT ≡ true = parts.1 in
    (token_len number number m n e, grind (arith, nat_tests)))
    (λ _ e. cc)

same_front : (bs : Bytes) (n : ℕ) → front_len bs ≤ n → take (front_len (take n bs)) (take n bs) ≡ take (front_len bs) bs
same_front bs n h = ap (λ m. take m (take n bs)) (prefix_take is_ascii_digit bs n h) ∙ take-take (front_len bs) n bs h

without_radix : (bs : Bytes) (n : ℕ)
    → number_before (front_len bs) (front_value bs) (drop (front_len bs) bs) ≡ token number n → IsNumber (take n bs)
without_radix bs n e =
    let parts = before_parts (front_len bs) (front_value bs) (drop (front_len bs) bs) n e in
    let within : front_len bs ≤ n = omega (arith, parts.0) in
    let len : length (take n bs) ≤ front_len (take n bs) =
    omega (arith, parts.0, prefix_take is_ascii_digit bs n within, length-take n bs) in
    plain_number (take n bs) (ap (begins_with 114) (drop_of_length-le (take n bs) len))
    (rw (same_front bs n within) parts.1)

begins_take : (p : ℕ → Bool) (m : ℕ) (xs : Bytes) → begins p xs ≡ true → begins p (take (suc m) xs) ≡ true
begins_take p m [] h = cc
begins_take p m (x ∷ xs) h = h

in_parts : (radix m : ℕ) (rest : Bytes) (n : ℕ) → number_in radix m rest ≡ token number n
    → (m + prefix_len is_radix_digit rest ≡ n)
    × (value_of radix (take (prefix_len is_radix_digit rest) rest) < INTEGER_LIMIT) × (2 ≤ radix) × (radix ≤ 36)
in_parts radix m rest n =
    let k : ℕ = prefix_len is_radix_digit rest in
    let P : Piece → Type 0 = λ q. q ≡ token number n
    → (m + k ≡ n) × (value_of radix (take k rest) < INTEGER_LIMIT) × (2 ≤ radix) × (radix ≤ 36) in
    on_cond P (are_digits radix (take k rest)) (number_before (m + k) (value_of radix (take k rest)) (drop k rest))
    (bad p3)
    (λ t e. let A : Bool = not (length (take k rest) == 0) in
    let B : Bool = list_all (λ b. nat_lt (digit_value b) radix) (take k rest) in
    let one = and_parts ((nat_le 2 radix && nat_le radix 36) && A) B t in
    let two = and_parts (nat_le 2 radix && nat_le radix 36) A one.0 in
    let three = and_parts (nat_le 2 radix) (nat_le radix 36) two.0 in
    let first : nat_le 2 radix ≡ true = three.0 in
    let second : nat_le radix 36 ≡ true = three.1 in
    let parts = before_parts (m + k) (value_of radix (take k rest)) (drop k rest) n e in
    (parts.0, parts.1, grind (arith, nat_tests), grind (arith, nat_tests)))
    (λ _ e. cc)

with_radix : (bs : Bytes) (n : ℕ) → has_radix bs
    → number_in (front_value bs) (front_len bs + 1) (drop (front_len bs + 1) bs) ≡ token number n → IsNumber (take n bs)
with_radix bs n some e =
    let d : ℕ = front_len bs in
    let k : ℕ = prefix_len is_radix_digit (drop (d + 1) bs) in
    let parts = in_parts (front_value bs) (d + 1) (drop (d + 1) bs) n e in
    let len : (d + 1) + k ≡ n = parts.0 in
    let within : d ≤ n = omega (arith, len) in
    let front : front_len (take n bs) ≡ d = prefix_take is_ascii_digit bs n within in
    let value : front_value (take n bs) ≡ front_value bs = ap (value_of 10) (same_front bs n within) in
    let sum : d + suc k ≡ n = omega (arith, len) in
    let cut : drop d (take n bs) ≡ take (suc k) (drop d bs) = ap (λ m. drop d (take m bs)) (sym sum)
    ∙ drop-take d (suc k) bs in
    let radix : has_radix (take n bs) =
    ap (λ m. begins_with 114 (drop m (take n bs))) front ∙ ap (begins_with 114) cut
    ∙ begins_take (λ b. b == 114) k (drop d bs) some in
    let digits : drop (front_len (take n bs) + 1) (take n bs) ≡ take k (drop (d + 1) bs) =
    ap (λ m. drop (m + 1) (take n bs)) front ∙ ap (λ m. drop (d + 1) (take m bs)) (sym len) ∙ drop-take (d + 1) k bs in
    radix_number (take n bs) radix (omega (arith, value, parts.2)) (omega (arith, value, parts.3))
    (rw (value, digits) parts.1)

number_token : (bs : Bytes) (n : ℕ) → number_at bs ≡ token number n → IsNumber (take n bs)
number_token bs n =
    let d : ℕ = front_len bs in
    let P : Piece → Type 0 = λ q. q ≡ token number n → IsNumber (take n bs) in
    on_cond P (begins_with 114 (drop d bs)) (number_in (front_value bs) (d + 1) (drop (d + 1) bs))
    (number_before d (front_value bs) (drop d bs))
    (λ some e. with_radix bs n some e) (λ none e. without_radix bs n e)

-- the bytes of a number token
pub number_bytes : (text : Bytes) (n : ℕ) → piece text ≡ token number n → IsNumber (take n text)
number_bytes text n e = number_token text n (number_begins text n e)

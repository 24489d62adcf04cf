-- Numbers in decimal digits.
use Rattle.std.proofs.Common.{◌≡◌, ℕ, ◌<◌, ◌≤◌, ◌^◌, Bool, true, false, true≢false, ◌==◌, cond, [], ◌∷◌, length, drop, refl, sym, ap, subst, ◌∙◌, arith}
use Rattle.std.proofs.lemmas.Bool.Decides.{nat_tests}
use Rattle.std.specs.Char.{digit_value}
use Rattle.std.specs.Str.Parse.{IsNumeral, digits_value, without_leading_plus}
use Rattle.texts.specs.Bytes.{Bytes}
use Rattle.program_words.specs.declared.number.TheConstants.{MOST_DIGITS}
use Rattle.program_words.specs.Settings.{IsNumber, begins_with_plus}

is_plus : (byte : ℕ) → (byte == 43) ≡ true → byte ≡ 43
is_plus byte e = grind (arith, nat_tests)

-- a number doesn't begin with a plus
pub no_plus : (word : Bytes) (number : ℕ) → begins_with_plus word ≡ true → IsNumber word number → ⊥
no_plus [] number e is = true≢false (sym e)
no_plus (first ∷ rest) number e is =
    let P : ℕ → Type 0 = λ byte. digit_value byte < 10 in
    let small : 36 < 10 = subst P (is_plus first e) is.digits.1.0 in
    omega (arith, small)

without_plus : (word : Bytes) → begins_with_plus word ≡ false → without_leading_plus word ≡ word
without_plus [] e = refl
without_plus (first ∷ rest) e = ap (λ (test : Bool). drop (cond test 1 0) (first ∷ rest)) e

-- what was parsed is the number
pub parsed : (word : Bytes) (number : ℕ) → length word ≤ MOST_DIGITS → begins_with_plus word ≡ false
    → IsNumeral 10 (without_leading_plus word) → number ≡ digits_value 10 (without_leading_plus word) → IsNumber word number
parsed word number few none numeral is =
    let e : without_leading_plus word ≡ word = without_plus word none in
    let P : Bytes → Type 0 = λ w. IsNumeral 10 w in
    record { digits = subst P e numeral; few = few; value = sym (is ∙ ap (λ (w : Bytes). digits_value 10 w) e) }

-- what wasn't parsed is no number that fits
pub not_parsed : (word : Bytes) → begins_with_plus word ≡ false
    → (IsNumeral 10 (without_leading_plus word) × (digits_value 10 (without_leading_plus word) < 2 ^ 32) → ⊥)
    → (number : ℕ) → number < 2 ^ 32 → IsNumber word number → ⊥
not_parsed word none fails number fits is =
    let e : word ≡ without_leading_plus word = sym (without_plus word none) in
    let P : Bytes → Type 0 = λ w. IsNumeral 10 w in
    let value : digits_value 10 (without_leading_plus word) ≡ number =
    ap (λ (w : Bytes). digits_value 10 w) (sym e) ∙ is.value in
    let Q : ℕ → Type 0 = λ n. n < 2 ^ 32 in
    fails (subst P e is.digits, subst Q (sym value) fits)

-- a word that is too long is no number
pub too_long : (word : Bytes) (number : ℕ) → MOST_DIGITS < length word → IsNumber word number → ⊥
too_long word number long is = let few : length word ≤ MOST_DIGITS = is.few in omega (arith, few, long)

-- Digits before other digits.
use Rattle.std.proofs.Common.{◌≡◌, ◌∙◌, refl, sym, ap, ℕ, zero, suc, ◌/◌, ◌%◌, Bool, true, false, nat_eq, List, [], ◌∷◌, ◌++◌, append_assoc}
use Rattle.std.specs.Prelude.{ℤ, pos, negsuc, unsigned_abs}
use Rattle.std.specs.Fmt.{digit_glyph, digits_onto, digits}
use Rattle.prim_rules.specs.Texts.{radix_text}
use Rattle.prim_numbers.specs.Radix.{sign_of}

module _ (base number : ℕ) (behind : List ℕ) (most : ℕ) where
  abbrev glyph : ℕ
  glyph = digit_glyph true (number % base)

  step : ((behind : List ℕ) → digits_onto most base true (number / base) behind
      ≡ digits_onto most base true (number / base) [] ++ behind) → (b : Bool) → nat_eq (number / base) 0 ≡ b
      → digits_onto (suc most) base true number behind ≡ digits_onto (suc most) base true number [] ++ behind
  step further true ends = rw ends refl
  step further false goes = rw goes (further (glyph ∷ behind)
      ∙ sym (append_assoc (digits_onto most base true (number / base) []) (glyph ∷ []) behind)
      ∙ ap (λ (front : List ℕ). front ++ behind) (sym (further (glyph ∷ []))))

-- what stands behind the digits stays there
onto : (most base number : ℕ) (behind : List ℕ)
    → digits_onto most base true number behind ≡ digits_onto most base true number [] ++ behind
onto zero base number behind = refl
onto (suc most) base number behind =
    step base number behind most (onto most base (number / base)) (nat_eq (number / base) 0) refl

-- the last digit stands behind the others
pub last_digit : (most base number : ℕ) → nat_eq (number / base) 0 ≡ false
    → digits_onto (suc most) base true number []
    ≡ digits_onto most base true (number / base) [] ++ digit_glyph true (number % base) ∷ []
last_digit most base number goes =
    rw goes (onto most base (number / base) (digit_glyph true (number % base) ∷ []))

-- a sign and the digits behind it
pub signed_text : (base : ℕ) (number : ℤ) → sign_of number ++ digits base true (unsigned_abs number) ≡ radix_text base number
signed_text base (pos number) = refl
signed_text base (negsuc before) = refl

pub all_digits : (base number : ℕ) → digits_onto 64 base true number [] ≡ digits base true number
unfolding digits
all_digits base number = refl

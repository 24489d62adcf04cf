-- The cases of a test, and what equal keys have in common.
use Rattle.std.proofs.Common.{◌≡◌, Bool, true, false, cond, List, [], ◌∷◌, length, Option, Some, None, is_some, refl, sym, ap, ◌∙◌, arith}
use Rattle.std.proofs.lemmas.Bool.{false≢true}
use Rattle.std.specs.Cmp.{IsEquivalence}

-- each answer of a test
pub by_test : {P : Type 0} (b : Bool) → (b ≡ true → P) → (b ≡ false → P) → P
by_test true passed failed = passed refl
by_test false passed failed = failed refl

pub some_is_not_none : {X : Type 0} {x : X} → Some x ≡ None → ⊥
some_is_not_none e = false≢true (sym (ap is_some e))

pub none_from_test : {X : Type 0} (o : Option X) → is_some o ≡ false → o ≡ None
none_from_test None h = refl
none_from_test (Some x) h = absurd (false≢true (sym h))

pub nothing_left : {X : Type 0} (l : List X) → length l ≡ 0 → l ≡ []
nothing_left [] h = refl
nothing_left (x ∷ xs) h = absurd (omega arith)

module _ {K : Type 0} (eq : K → K → Bool) where
  module _ {T : Type 0} (x z : K) (left before : Option T) where
    -- what a change of x leaves at z, where it leaves `left` at x, and z had `before`
    pub at_z-tied : eq x z ≡ true → cond (eq x z) left before ≡ left
    at_z-tied h = ap (λ b. cond b left before) h

    pub at_z-apart : eq x z ≡ false → cond (eq x z) left before ≡ before
    at_z-apart h = ap (λ b. cond b left before) h

  module _ (laws : IsEquivalence eq) (x y z : K) where
    -- z is equal to a key that x differs from
    pub apart_from : eq x y ≡ false → eq z y ≡ true → eq x z ≡ false
    apart_from apart tied = laws.symm x z ∙ (laws.congr z y x tied ∙ (laws.symm y x ∙ apart))

    -- whether z is equal to a key that x is equal to
    pub tied_with : eq x y ≡ true → eq z y ≡ eq x z
    tied_with tied = laws.symm z y ∙ sym (laws.congr x y z tied)

-- The cases of a test, of a comparison and of an answer, and a comparison read from its other side.
use Rattle.std.proofs.Common.{◌≡◌, Bool, true, false, Result, Ok, Err, OnErr, Ordering, refl, sym, ap, ◌∙◌}
use Rattle.std.specs.Cmp.{IsTotalOrder}
use Rattle.std.specs.Ordering.{is_eq, ordering_reverse}
use Rattle.std.specs.declared.cmp.Ordering.TheVariants.{Less, Equal, Greater}

-- each answer of a comparison
pub by_ordering : {P : Type 0} (o : Ordering) → (o ≡ Less → P) → (o ≡ Equal → P) → (o ≡ Greater → P) → P
by_ordering Less below tied above = below refl
by_ordering Equal below tied above = tied refl
by_ordering Greater below tied above = above refl

-- each answer of a test
pub by_test : {P : Type 0} (b : Bool) → (b ≡ true → P) → (b ≡ false → P) → P
by_test true passed failed = passed refl
by_test false passed failed = failed refl

-- what holds holds on an error too
pub on_error : {X E : Type 0} (r : Result X E) (P : Type 0) → P → OnErr r P
on_error (Ok x) P h = tt
on_error (Err e) P h = h

module _ {K : Type 0} {cmp : K → K → Ordering} (total : IsTotalOrder cmp) (x y : K) where
  -- the greater key is above the lesser one
  pub above_lesser : cmp x y ≡ Less → cmp y x ≡ Greater
  above_lesser e = total.antisymm y x ∙ ap ordering_reverse e

  -- and the lesser key is below the greater one
  pub below_greater : cmp x y ≡ Greater → cmp y x ≡ Less
  below_greater e = total.antisymm y x ∙ ap ordering_reverse e

  -- whether two keys tie doesn't depend on their order
  pub tie_flip : is_eq (cmp x y) ≡ is_eq (cmp y x)
  tie_flip = by_ordering (cmp y x)
      (λ e. ap is_eq (total.antisymm x y ∙ ap ordering_reverse e) ∙ sym (ap is_eq e))
      (λ e. ap is_eq (total.antisymm x y ∙ ap ordering_reverse e) ∙ sym (ap is_eq e))
      (λ e. ap is_eq (total.antisymm x y ∙ ap ordering_reverse e) ∙ sym (ap is_eq e))

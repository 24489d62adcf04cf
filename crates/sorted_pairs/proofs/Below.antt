-- A key that is below all the keys of a list.
use Rattle.std.proofs.Common.{◌≡◌, List, [], ◌∷◌, map, Ordering, sym, ◌∙◌}
use Rattle.std.specs.Cmp.{IsTotalOrder}
use Rattle.std.specs.List.{AllByRecursion}
use Rattle.std.specs.declared.cmp.Ordering.TheVariants.{Less, Equal}

module _ {K X : Type 0} (cmp : K → K → Ordering) where
  -- the key is below each of the pairs
  abbrev pub IsBelow : K → List (K × X) → Type 0
  IsBelow x pairs = AllByRecursion (λ y. cmp x y ≡ Less) (map (λ pair. pair.0) pairs)

  module _ (total : IsTotalOrder cmp) where
    -- a key below a lower bound is one
    pub all_over : (x y : K) (pairs : List (K × X)) → cmp x y ≡ Less → IsBelow y pairs → IsBelow x pairs
    all_over x y [] h below = tt
    all_over x y (pair ∷ rest) h below = (total.trans x y pair.0 h below.0, all_over x y rest h below.1)

    -- a key that ties with a lower bound is one
    pub all_tied : (x y : K) (pairs : List (K × X)) → cmp x y ≡ Equal → IsBelow x pairs → IsBelow y pairs
    all_tied x y [] e below = tt
    all_tied x y (pair ∷ rest) e below = (sym (total.congr x y pair.0 e) ∙ below.0, all_tied x y rest e below.1)

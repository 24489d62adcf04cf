-- Where a key stands among pairs in the order of their keys, or where it would.
use Rattle.std.specs.Prelude.{◌≡◌, ℕ, zero, suc, List, [], ◌∷◌, map}
use Rattle.std.specs.List.{AllByRecursion}
use Rattle.std.specs.List.Sorted.{IsStrictlySortedBy}
use Rattle.std.specs.declared.cmp.Ordering.{Ordering}
use Rattle.std.specs.declared.cmp.Ordering.TheVariants.{Less, Equal, Greater}

module _ {K X : Type 0} (cmp : K → K → Ordering) where
  -- the keys ascend strictly
  abbrev pub Ascends : List (K × X) → Type 0
  Ascends pairs = IsStrictlySortedBy cmp (map (λ pair. pair.0) pairs)

  module _ (key : K) where
    -- the pair at this place has the key, and those before it are below
    abbrev pub StandsAt : List (K × X) → ℕ → Type 0
    StandsAt [] at = ⊥
    StandsAt (pair ∷ rest) zero = cmp pair.0 key ≡ Equal
    StandsAt (pair ∷ rest) (suc at) = (cmp pair.0 key ≡ Less) × StandsAt rest at

    -- the pairs before this place are below the key, and those from it on above
    abbrev pub FitsAt : List (K × X) → ℕ → Type 0
    FitsAt pairs zero = AllByRecursion (λ pair. cmp pair.0 key ≡ Greater) pairs
    FitsAt [] (suc at) = ⊥
    FitsAt (pair ∷ rest) (suc at) = (cmp pair.0 key ≡ Less) × FitsAt rest at

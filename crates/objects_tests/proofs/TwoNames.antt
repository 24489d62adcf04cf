-- Names that tests list.
use Rattle.std.proofs.Common.{◌≡◌, ℕ, List, [], ◌∷◌, sym, subst}
use Rattle.std.specs.Ordering.{nat_cmp}
use Rattle.std.specs.List.Sorted.{IsStrictlySortedBy}
use Rattle.std.specs.declared.cmp.Ordering.TheVariants.{Less}
use Rattle.gem_record.specs.Names.{Ascend}

two_alone : (x y : ℕ) → nat_cmp x y ≡ Less → Ascend (x ∷ y ∷ [])
unfolding IsStrictlySortedBy
two_alone x y below = ((below, tt), (tt, tt))

-- two names, the lesser first, are in order
pub two_ascend : (names : List ℕ) (x y : ℕ) → names ≡ x ∷ y ∷ [] → nat_cmp x y ≡ Less
    → Ascend names
two_ascend names x y is below = subst Ascend (sym is) (two_alone x y below)

-- One name is in order.
use Rattle.std.proofs.Common.{◌≡◌, ℕ, List, [], ◌∷◌, sym, subst}
use Rattle.std.specs.List.Sorted.{IsStrictlySortedBy}
use Rattle.gem_record.specs.Names.{Ascend}

alone_ascends : (name : ℕ) → Ascend (name ∷ [])
unfolding IsStrictlySortedBy
alone_ascends name = (tt, tt)

pub one_ascends : (names : List ℕ) (name : ℕ) → names ≡ name ∷ [] → Ascend names
one_ascends names name is = subst Ascend (sym is) (alone_ascends name)

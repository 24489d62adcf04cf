use Rattle.std.proofs.Common.{◌≡◌, map, take}
use Rattle.prim_collections.proofs.lists.values_of.Given as goal

-- the values of the pairs before this place
abbrev pub invariant-loop-at : goal.invariant-loop-at
invariant-loop-at l = l.values.items ≡ map (λ pair. pair.1) (take l.at l.pairs)

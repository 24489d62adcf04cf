use Rattle.std.proofs.Common.{◌≡◌, map, take}
use Rattle.prim_collections.proofs.lists.keys_of.Given as goal

-- the keys of the pairs before this place
abbrev pub invariant-loop-at : goal.invariant-loop-at
invariant-loop-at l = l.keys.items ≡ map (λ pair. pair.0) (take l.at l.pairs)

use Rattle.std.proofs.Common.{◌≡◌, map, take}
use Rattle.prim_shared.proofs.lists.keys_of.Given as goal

-- the keys of the pairs before this one
abbrev pub invariant-loop-pair : goal.invariant-loop-pair
invariant-loop-pair l = l.values.items ≡ map (λ pair. pair.0) (take l.pair-index l.pairs)

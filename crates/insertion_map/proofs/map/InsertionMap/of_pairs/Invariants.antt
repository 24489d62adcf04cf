use Rattle.std.proofs.Common.{◌≡◌, ◌++◌, length}
use Rattle.std.specs.Vec.Iter.{into_iter_items, into_iter_len}
use Rattle.insertion_map.specs.Pairs.{AreDistinct}
use Rattle.insertion_map.proofs.map.InsertionMap.of_pairs.Given as goal

-- the map has the pairs that came, and the others are left
abbrev pub invariant-loop-key : goal.invariant-loop-key
invariant-loop-key g l =
    (l.map ++ into_iter_items l.key-iterator ≡ into_iter_items l.initial.key-iterator)
    × (into_iter_len l.key-iterator ≡ length (into_iter_items l.key-iterator))
    × AreDistinct g.K.PartialEq.eq l.map

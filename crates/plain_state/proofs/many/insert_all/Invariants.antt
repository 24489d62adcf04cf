use Rattle.std.specs.Vec.Iter.{into_iter_items}
use Rattle.indexmap.specs.IndexMap.{spare}
use Rattle.plain_state.proofs.InTurn.{IsUnderWay}
use Rattle.plain_state.proofs.many.insert_all.Given as goal

abbrev pub invariant-loop-object : goal.invariant-loop-object
invariant-loop-object l = IsUnderWay l.initial.entries.entries l.entries.entries l.initial.number l.number
    (into_iter_items l.initial.object-iterator) (into_iter_items l.object-iterator) (spare l.entries)

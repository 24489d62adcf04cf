use Rattle.std.proofs.Common.{◌≡◌, ◌++◌}
use Rattle.std.specs.Vec.Iter.{into_iter_items}
use Rattle.st_code.proofs.reach.add_all.Given as goal

abbrev pub invariant-loop-way : goal.invariant-loop-way
invariant-loop-way l = l.ways.items ++ into_iter_items l.way-iterator
    ≡ l.initial.ways.items ++ into_iter_items l.initial.way-iterator

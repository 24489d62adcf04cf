use Rattle.std.proofs.Common.{◌≤◌, ◌-◌, ◌^◌}
use Rattle.stone_store.specs.Counted.{AreCountedBelow}
use Rattle.stone_store.proofs.count.count_leaves.Given as goal

abbrev pub invariant-loop-entry : goal.invariant-loop-entry
invariant-loop-entry l = record {
  few : l.next ≤ 2 ^ 42;
  counted : AreCountedBelow l.image l.root l.next l.sums l.changed.items;
}

abbrev pub decreases-loop-entry : goal.decreases-loop-entry
decreases-loop-entry l = 2 ^ 42 - l.next

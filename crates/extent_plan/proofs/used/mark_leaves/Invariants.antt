use Rattle.std.proofs.Common.{◌≡◌, length}
use Rattle.extent_plan.specs.Used.{pages_in}
use Rattle.extent_plan.proofs.Marking.{Marking}
use Rattle.extent_plan.proofs.used.mark_leaves.Given as goal

abbrev pub invariant-loop-leaf : goal.invariant-loop-leaf
invariant-loop-leaf l = record {
  long : length l.marks ≡ length l.initial.marks;
  marking : Marking l.initial.marks l.marks (pages_in l.rest) (pages_in l.leaves);
}

abbrev pub decreases-loop-leaf : goal.decreases-loop-leaf
decreases-loop-leaf l = length l.rest

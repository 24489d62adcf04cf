use Rattle.extent_plan.specs.Leaves.{objects_before}
use Rattle.extent_plan.specs.Gathered.{AreGathered}
use Rattle.extent_plan.proofs.gather.gather_leaf.Given as goal

abbrev pub invariant-loop-place : goal.invariant-loop-place
invariant-loop-place l = AreGathered (objects_before l.image l.leaf l.place) l.gathered

use Rattle.std.proofs.Common.{◌≤◌, ◌-◌, ◌^◌}
use Rattle.gem_image.specs.Image.{objects_in}
use Rattle.image_check.specs.Chains.{AreCounts}
use Rattle.image_check.specs.Faults.{AreKeptBelow}
use Rattle.image_check.proofs.check.check_others.Given as goal

abbrev pub invariant-loop-entry : goal.invariant-loop-entry
invariant-loop-entry l = record {
  past : 36 ≤ l.from;
  counts : AreCounts (objects_in l.image) l.counts.entries;
  below : AreKeptBelow (objects_in l.image) l.from;
}

abbrev pub decreases-loop-entry : goal.decreases-loop-entry
decreases-loop-entry l = 2 ^ 48 - l.from

use Rattle.gem_image.specs.Image.{objects_in}
use Rattle.image_check.specs.Chains.{AreCounts}
use Rattle.image_check.specs.Faults.{AreKeptBelow}
use Rattle.image_check.proofs.check.check_kernel.Given as goal

abbrev pub invariant-loop-counter : goal.invariant-loop-counter
invariant-loop-counter l = record {
  counts : AreCounts (objects_in l.image) l.counts.entries;
  below : AreKeptBelow (objects_in l.image) l.counter;
}

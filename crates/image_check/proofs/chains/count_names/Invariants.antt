use Rattle.std.proofs.Common.{length}
use Rattle.gem_image.specs.Image.{objects_in}
use Rattle.image_check.specs.Chains.{IsClimb, AreCounts}
use Rattle.image_check.proofs.chains.count_names.Given as goal

abbrev pub decreases-loop-step : goal.decreases-loop-step
decreases-loop-step l = length l.steps.items

abbrev pub invariant-loop-step : goal.invariant-loop-step
invariant-loop-step l = record {
  climb : IsClimb (objects_in l.image) l.fn.name l.steps.items l.count;
  kept : AreCounts (objects_in l.image) l.counts.entries;
}

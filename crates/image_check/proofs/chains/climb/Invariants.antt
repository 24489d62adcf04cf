use Rattle.std.proofs.Common.{◌≡◌, length}
use Rattle.gem_image.specs.Image.{objects_in}
use Rattle.image_check.specs.Chains.{AreSteps}
use Rattle.image_check.proofs.chains.climb.Given as goal

abbrev pub invariant-loop-turn : goal.invariant-loop-turn
invariant-loop-turn l = record {
  count : length l.steps.items ≡ l._turn;
  steps : AreSteps (objects_in l.image) l.steps.items l.fn.name l.class;
}

use Rattle.std.proofs.Common.{subst}
use Rattle.gem_image.specs.Image.{objects_in}
use Rattle.image_check.specs.Chains.{IsCountOf}
use Rattle.image_check.proofs.Places.{too_many}
use Rattle.image_check.proofs.rules.has_place.Goals as goal

pub returns-then-count-gt-NAMES_LIMIT-clause-place : goal.returns-then-count-gt-NAMES_LIMIT-clause-place
returns-then-count-gt-NAMES_LIMIT-clause-place c = too_many _ _ _ c.in-Some.count
    (subst (IsCountOf (objects_in c.args.image.now) c.args.number) c.in-Some.is c.in_ok-count.ensures.count)
    c.if-count-gt-NAMES_LIMIT.true

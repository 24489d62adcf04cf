use Rattle.std.proofs.Common.{subst}
use Rattle.gem_image.specs.Image.{objects_in, contents_of}
use Rattle.image_check.specs.Faults.{IsFirstBroken}
use Rattle.image_check.proofs.Kept.{next_object}
use Rattle.image_check.proofs.check.check_object.Goals as goal

pub returns-in-None-clause-next : goal.returns-in-None-clause-next
returns-in-None-clause-next c =
    next_object _ _ _ c.requires.there c.requires.below
    (subst (IsFirstBroken (objects_in c.args.image.now) c.args.oid (contents_of c.args.object.now)) c.in-None.is c.in_ok-rule.ensures.first)

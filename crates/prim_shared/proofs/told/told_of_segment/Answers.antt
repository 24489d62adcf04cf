use Rattle.std.proofs.Common.{ap, Some}
use Rattle.gem_object.specs.declared.body.Body.TheVariants as body
use Rattle.prim_shared.proofs.Tells.{told_so, none_of_segment}
use Rattle.prim_shared.proofs.told.told_of_segment.Goals as goal

pub returns-in-Owner : goal.returns-in-Owner
returns-in-Owner c = told_so (body.Segment c.args.rights.now) c.in-Owner.is c.owner_of.ensures

pub returns-in_ok-right_symbol-in-OwnerRight : goal.returns-in_ok-right_symbol-in-OwnerRight
returns-in_ok-right_symbol-in-OwnerRight c =
    told_so (body.Segment c.args.rights.now) c.in-OwnerRight.is (ap Some c.in_ok-right_symbol-in-OwnerRight.ensures)

pub returns-in_ok-right_symbol-in-WorldRight : goal.returns-in_ok-right_symbol-in-WorldRight
returns-in_ok-right_symbol-in-WorldRight c =
    told_so (body.Segment c.args.rights.now) c.in-WorldRight.is (ap Some c.in_ok-right_symbol-in-WorldRight.ensures)

pub returns-in_default : goal.returns-in_default
returns-in_default c = none_of_segment c.args.fact c.args.rights.now c.in_default.not-Owner c.in_default.not-OwnerRight
    c.in_default.not-WorldRight

use Rattle.std.proofs.Common.{refl, ap, Some}
use Rattle.gem_object.specs.texts.Bytes.{Bytes as Text}
use Rattle.gem_object.specs.declared.value.Value.TheVariants.{Sym}
use Rattle.gem_object.specs.declared.body.Body.TheVariants as body
use Rattle.prim_shared.proofs.Tells.{told_so, none_of_user}
use Rattle.prim_shared.proofs.told.told_of_user.Goals as goal

pub returns-in_ok-clone-in-UserName : goal.returns-in_ok-clone-in-UserName
returns-in_ok-clone-in-UserName c = told_so (body.User c.args.user.now) c.in-UserName.is
    (ap (λ (name : Text). Some (Sym name)) c.in_ok-clone-in-UserName.ensures.cases)

pub returns-in-DefaultSegment : goal.returns-in-DefaultSegment
returns-in-DefaultSegment c = told_so _ c.in-DefaultSegment.is refl

pub returns-in_default : goal.returns-in_default
returns-in_default c = none_of_user c.args.fact c.args.user.now c.in_default.not-UserName c.in_default.not-DefaultSegment

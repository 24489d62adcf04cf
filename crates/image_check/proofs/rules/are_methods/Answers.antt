use Rattle.std.proofs.Common.{subst}
use Rattle.gem_sound.specs.Sound.{IsMethodOf}
use Rattle.image_check.proofs.Lists.{one_more, none_left}
use Rattle.image_check.proofs.rules.are_methods.Goals as goal

pub loop-method-preserved : goal.loop-method-preserved
loop-method-preserved c =
    one_more (IsMethodOf c.args.class c.args.class_side) c.args.methods.now c.loop-method.method-index c.method-item.result
    c.loop-method-test.true c.loop-method.invariant
    (subst (IsMethodOf c.args.class c.args.class_side) c.method-item.is (c.in_ok-is_method.ensures.0 c.if-not-branch.false))

pub returns : goal.returns
returns c = none_left (IsMethodOf c.args.class c.args.class_side) c.args.methods.now c.loop-method.method-index
    c.loop-method-test.false c.loop-method.invariant

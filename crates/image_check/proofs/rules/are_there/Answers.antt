use Rattle.std.proofs.Common.{IsSome, sym, ◌∙◌}
use Rattle.gem_image.specs.Image.{objects_in}
use Rattle.image_check.proofs.Lists.{one_more, none_left}
use Rattle.image_check.proofs.rules.are_there.Goals as goal

pub loop-name-preserved : goal.loop-name-preserved
loop-name-preserved c = one_more (λ name. IsSome (objects_in c.args.image.now name)) c.args.names.now c.loop-name.name-index 0
    c.loop-name-test.true c.loop-name.invariant (sym c.is_there.ensures ∙ c.if-not-is_there.false)

pub returns : goal.returns
returns c = none_left (λ name. IsSome (objects_in c.args.image.now name)) c.args.names.now c.loop-name.name-index
    c.loop-name-test.false c.loop-name.invariant

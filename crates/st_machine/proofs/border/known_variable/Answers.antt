use Rattle.std.proofs.Common.{◌∙◌}
use Rattle.st_machine.specs.Parts.{framed}
use Rattle.st_machine.proofs.Outlines.{known_ran}
use Rattle.st_machine.proofs.border.known_variable.Goals as goal

pub returns : goal.returns
returns g c =
    known_ran c.receiver.result.now c.holder.result c.class_side.result
    (framed c.args.chain.now.own c.args.frame.now) (c.receiver.ensures ∙ c.frame-inner.ensures.receiver)
    (c.holder.ensures ∙ c.frame-inner.ensures.holder) (c.class_side.ensures ∙ c.frame-inner.ensures.class_side)
    c.args.name.now c.in_ok-value.value c.in_ok-value.ensures

use Rattle.std.proofs.Common.{◌∙◌}
use Rattle.st_machine.specs.Parts.{framed}
use Rattle.st_machine.proofs.Outlines.{assigned_by}
use Rattle.st_machine.proofs.border.set_known_variable.Goals as goal

pub returns-clause-done : goal.returns-clause-done
returns-clause-done g c =
    assigned_by c.receiver.result.now c.holder.result c.class_side.result
    (framed c.args.chain.now.own c.args.frame.now) (c.receiver.ensures ∙ c.frame-inner.ensures.receiver)
    (c.holder.ensures ∙ c.frame-inner.ensures.holder) (c.class_side.ensures ∙ c.frame-inner.ensures.class_side)
    c.args.name.now (g.O.Objects.seen c.args.objects.now) (g.O.Objects.seen c.set_known_variable.new.self)
    c.args.locals.now c.args.value.now c.set_known_variable.result c.set_known_variable.ensures.done

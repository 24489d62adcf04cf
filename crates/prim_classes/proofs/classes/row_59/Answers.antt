use Rattle.std.proofs.Common.{ap, ◌∙◌}
use Rattle.object_programs.specs.gem_world.Access.{a_read}
use Rattle.prim_rules.specs.declared.answer.PrimitiveAnswer.TheVariants.{Gives}
use Rattle.prim_rules.specs.Parts.{class_in, truth}
use Rattle.prim_parts.proofs.Does.{does_then, does_exit, computes_then}
use Rattle.prim_classes.proofs.Steps.{does_given}
use Rattle.prim_parts.proofs.Onward.{computes_stops}
use Rattle.prim_classes.proofs.ClassFacts.{received_as, received_wrong, received_refused, received_none}
use Rattle.prim_classes.proofs.classes.row_59.Goals as goal

pub returns-in_err-name : goal.returns-in_err-name
returns-in_err-name g c = does_exit _ c.from_residual.ensures.1 (received_none a_read class_in c.args.receiver.now (g.O.Objects.seen c.args.objects.now) c.in_err-name.ensures)

pub returns-in_err-read : goal.returns-in_err-read
returns-in_err-read g c = does_exit _ c.from_residual-in_err-read.ensures.1 (received_refused a_read class_in c.args.receiver.now _ c.in_ok-name.ensures
    c.in_err-read.ensures)

pub returns-in_err-class : goal.returns-in_err-class
returns-in_err-class g c = does_exit _ c.from_residual-in_err-class.ensures.1 (received_wrong a_read class_in c.args.receiver.now _ c.in_ok-name.ensures c.in_ok-read.ensures
    (c.in_err-class.ensures c.in_ok-read.ensures.object c.in_ok-read.ensures.there))

pub returns-in_err-selector : goal.returns-in_err-selector
returns-in_err-selector g c = does_then (received_as a_read class_in c.args.receiver.now _ _ c.in_ok-name.ensures c.in_ok-read.ensures (c.in_ok-class.ensures c.in_ok-read.ensures.object c.in_ok-read.ensures.there))
    (computes_stops c.in_err-selector.ensures c.from_residual-in_err-selector.ensures.1)

pub returns : goal.returns
returns g c = does_then (received_as a_read class_in c.args.receiver.now _ _ c.in_ok-name.ensures c.in_ok-read.ensures (c.in_ok-class.ensures c.in_ok-read.ensures.object c.in_ok-read.ensures.there))
    (computes_then c.in_ok-selector.ensures (does_given (ap Gives (c.truth.ensures ∙ ap truth c.understands.ensures))))

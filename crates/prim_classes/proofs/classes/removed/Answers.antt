use Rattle.std.proofs.Common.{ap}
use Rattle.prim_rules.specs.declared.answer.PrimitiveAnswer.TheVariants.{Gives}
use Rattle.prim_parts.proofs.Does.{does_then, does_exit}
use Rattle.prim_classes.proofs.Steps.{does_no_memory, does_given}
use Rattle.prim_classes.proofs.classes.removed.Goals as goal

pub returns-in_err-replace_body : goal.returns-in_err-replace_body
returns-in_err-replace_body g c = λ object there. does_exit _ c.from_residual.ensures.1 (c.in_err-replace_body.ensures object there)

pub returns-in_err-clone : goal.returns-in_err-clone
returns-in_err-clone g c = λ object there. does_then (c.in_ok-replace_body.ensures object there) (does_no_memory c.from_residual-in_err-clone.ensures.1)

pub returns : goal.returns
returns g c = λ object there. does_then (c.in_ok-replace_body.ensures object there) (does_given (ap Gives c.in_ok-clone.ensures.cases))

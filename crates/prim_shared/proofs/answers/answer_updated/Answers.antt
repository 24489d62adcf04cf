use Rattle.prim_parts.proofs.Does.{does_then, does_stop, does_give}
use Rattle.prim_shared.proofs.Steps.{handed}
use Rattle.prim_shared.proofs.answers.answer_updated.Goals as goal

pub returns-in_err-update : goal.returns-in_err-update
returns-in_err-update g c = λ object there. handed c.from_residual-in_err-update.result c.from_residual-in_err-update.ensures.1
    (does_stop (c.in_err-update.ensures object there))

pub returns : goal.returns
returns g c = λ object there. does_then (c.in_ok-update.ensures object there)
    (rw c.in_ok-given.ensures.cases (does_give _ _))

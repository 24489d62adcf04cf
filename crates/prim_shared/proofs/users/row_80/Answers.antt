use Rattle.prim_parts.proofs.Does.{computes_then, computes_stop, does_who, does_give}
use Rattle.prim_shared.proofs.Steps.{handed}
use Rattle.prim_shared.proofs.users.row_80.Goals as goal

pub returns-in_err-reference_in : goal.returns-in_err-reference_in
returns-in_err-reference_in g c = handed c.from_residual.result c.from_residual.ensures.1
    (computes_stop _ c.in_err-reference_in.ensures)

pub returns-in_err-no_arguments : goal.returns-in_err-no_arguments
returns-in_err-no_arguments g c = handed c.from_residual-in_err-no_arguments.result c.from_residual-in_err-no_arguments.ensures.1
    (computes_then c.in_ok-reference_in.ensures (computes_stop _ c.in_err-no_arguments.ensures))

pub returns : goal.returns
returns g c = computes_then c.in_ok-reference_in.ensures (computes_then c.in_ok-no_arguments.ensures
    (does_who c.user.result c.user.ensures (does_give _ _)))

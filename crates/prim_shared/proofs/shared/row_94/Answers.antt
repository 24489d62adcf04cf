use Rattle.prim_parts.proofs.Does.{does_then, does_stop, computes_then, computes_stop}
use Rattle.prim_shared.proofs.Steps.{handed}
use Rattle.prim_shared.proofs.shared.row_94.Goals as goal

pub returns-in_err-name : goal.returns-in_err-name
returns-in_err-name g c = handed c.from_residual.result c.from_residual.ensures.1
    (does_stop c.in_err-name.ensures)

pub returns-in_err-item : goal.returns-in_err-item
returns-in_err-item g c = handed c.from_residual-in_err-item.result c.from_residual-in_err-item.ensures.1
    (does_then c.in_ok-name.ensures.does (computes_stop _ c.in_err-item.ensures))

pub returns-in_err-check_stored : goal.returns-in_err-check_stored
returns-in_err-check_stored g c = handed c.from_residual-in_err-check_stored.result c.from_residual-in_err-check_stored.ensures.1
    (does_then c.in_ok-name.ensures.does (computes_then c.in_ok-item.ensures (computes_stop _ c.in_err-check_stored.ensures)))

pub returns : goal.returns
returns g c = does_then c.in_ok-name.ensures.does (computes_then c.in_ok-item.ensures (computes_then c.in_ok-check_stored.ensures (rw c.in_ok-clone.ensures.cases at (c.answer_updated.ensures c.in_ok-name.ensures.object c.in_ok-name.ensures.there))))

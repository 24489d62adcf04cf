use Rattle.prim_parts.proofs.Does.{does_then, does_stop, does_give, computes_then, computes_stop}
use Rattle.prim_shared.proofs.Steps.{handed}
use Rattle.prim_shared.proofs.shared.row_92.Goals as goal

pub returns-in_err-name : goal.returns-in_err-name
returns-in_err-name g c = handed c.from_residual.result c.from_residual.ensures.1
    (does_stop c.in_err-name.ensures)

pub returns-in_err-key : goal.returns-in_err-key
returns-in_err-key g c = handed c.from_residual-in_err-key.result c.from_residual-in_err-key.ensures.1
    (does_then c.in_ok-name.ensures.does (computes_stop _ c.in_err-key.ensures))

pub returns : goal.returns
returns g c = does_then c.in_ok-name.ensures.does (computes_then c.in_ok-key.ensures (rw (c.truth.ensures, c.has_entry.ensures c.in_ok-name.ensures.object c.in_ok-name.ensures.held c.in_ok-name.ensures.there c.in_ok-name.ensures.holds) (does_give _ _)))

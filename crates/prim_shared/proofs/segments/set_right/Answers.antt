use Rattle.prim_parts.proofs.Does.{does_then, does_stop, computes_then, computes_stop}
use Rattle.prim_shared.proofs.Steps.{handed}
use Rattle.prim_shared.proofs.segments.set_right.Goals as goal

pub returns-in_err-name : goal.returns-in_err-name
returns-in_err-name g c = handed c.from_residual.result c.from_residual.ensures.1
    (does_stop c.in_err-name.ensures)

pub returns-in_err-right : goal.returns-in_err-right
returns-in_err-right g c = handed c.from_residual-in_err-right.result c.from_residual-in_err-right.ensures.1
    (does_then c.in_ok-name.ensures.does (computes_stop _ c.in_err-right.ensures))

pub returns : goal.returns
returns g c = does_then c.in_ok-name.ensures.does (computes_then c.in_ok-right.ensures (c.replace_right.ensures c.in_ok-name.ensures.object c.in_ok-name.ensures.held c.in_ok-name.ensures.there c.in_ok-name.ensures.holds))

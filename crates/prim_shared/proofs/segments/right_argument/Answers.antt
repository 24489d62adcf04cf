use Rattle.prim_shared.proofs.Steps.{handed_computed}
use Rattle.prim_parts.proofs.Onward.{computes_on, computes_off}
use Rattle.prim_shared.proofs.segments.right_argument.Goals as goal

pub returns-in_err-one_of : goal.returns-in_err-one_of
returns-in_err-one_of c = handed_computed c.from_residual.result c.from_residual.ensures.1
    (computes_off c.in_err-one_of.ensures)

pub returns : goal.returns
returns c = computes_on c.in_ok-one_of.ensures (c.right_in.ensures)

use Rattle.prim_classes.proofs.Steps.{steps}
use Rattle.prim_classes.proofs.segments.assign_value.Goals as goal

pub returns-in_err-segment : goal.returns-in_err-segment
returns-in_err-segment g c = search (steps, c.in_err-segment.ensures, c.from_residual.ensures.1)

pub returns : goal.returns
returns g c = search (steps, c.in_ok-segment.ensures, c.check_segment.ensures)

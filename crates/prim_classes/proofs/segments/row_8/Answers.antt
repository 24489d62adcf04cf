use Rattle.prim_classes.proofs.Steps.{steps}
use Rattle.prim_classes.proofs.segments.row_8.Goals as goal

pub returns-in_err-no_arguments : goal.returns-in_err-no_arguments
returns-in_err-no_arguments g c = search (steps, c.in_err-no_arguments.ensures, c.from_residual.ensures.1)

pub returns-in_err-segment_of : goal.returns-in_err-segment_of
returns-in_err-segment_of g c = search (steps, c.in_ok-no_arguments.ensures, c.in_err-segment_of.ensures, c.from_residual-in_err-segment_of.ensures.1)

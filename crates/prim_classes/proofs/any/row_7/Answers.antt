use Rattle.prim_classes.proofs.Steps.{steps}
use Rattle.prim_classes.proofs.any.row_7.Goals as goal

pub returns-in_err-no_arguments : goal.returns-in_err-no_arguments
returns-in_err-no_arguments g c = search (steps, c.in_err-no_arguments.ensures, c.from_residual.ensures.1)

pub returns-in_err-copy : goal.returns-in_err-copy
returns-in_err-copy g c = search (steps, c.in_ok-no_arguments.ensures, c.in_err-copy.ensures, c.from_residual-in_err-copy.ensures.1)

use Rattle.prim_classes.proofs.Steps.{steps}
use Rattle.prim_classes.proofs.any.row_4.Goals as goal

pub returns-in_err-no_arguments : goal.returns-in_err-no_arguments
returns-in_err-no_arguments g c = search (steps, c.in_err-no_arguments.ensures, c.from_residual.ensures.1)

pub returns-in_err-print_string : goal.returns-in_err-print_string
returns-in_err-print_string g c = search (steps, c.in_ok-no_arguments.ensures, c.in_err-print_string.ensures, c.from_residual-in_err-print_string.ensures.1)

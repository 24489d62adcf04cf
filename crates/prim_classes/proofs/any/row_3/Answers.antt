use Rattle.prim_classes.proofs.Steps.{steps}
use Rattle.prim_classes.proofs.any.row_3.Goals as goal

pub returns-in_err-no_arguments : goal.returns-in_err-no_arguments
returns-in_err-no_arguments g c = search (steps, c.no_arguments.ensures, c.in_err-no_arguments.ensures, c.from_residual.ensures.1)

pub returns-in_err-class_of : goal.returns-in_err-class_of
returns-in_err-class_of g c = search (steps, c.no_arguments.ensures, c.in_ok-no_arguments.ensures, c.class_of.ensures, c.in_err-class_of.ensures, c.from_residual-in_err-class_of.ensures.1)

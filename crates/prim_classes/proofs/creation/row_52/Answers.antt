use Rattle.prim_classes.proofs.Steps.{steps}
use Rattle.prim_classes.proofs.creation.row_52.Goals as goal

pub returns-in_err-class : goal.returns-in_err-class
returns-in_err-class g c = search (steps, c.in_err-class.ensures, c.from_residual.ensures.1)

pub returns-in_err-no_arguments : goal.returns-in_err-no_arguments
returns-in_err-no_arguments g c = search (steps, c.in_ok-class.ensures, c.in_err-no_arguments.ensures, c.from_residual-in_err-no_arguments.ensures.1)

pub returns-in_err-new_instance : goal.returns-in_err-new_instance
returns-in_err-new_instance g c = search (steps, c.in_ok-class.ensures, c.in_ok-no_arguments.ensures, c.in_err-new_instance.ensures, c.from_residual-in_err-new_instance.ensures.1)

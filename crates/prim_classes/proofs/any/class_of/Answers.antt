use Rattle.prim_classes.proofs.Steps.{steps}
use Rattle.prim_classes.proofs.any.class_of.Goals as goal

pub returns-in_err-class : goal.returns-in_err-class
returns-in_err-class g c = search (steps, c.class_of_value.ensures, c.in_err-class.ensures, c.from_residual.ensures.1)

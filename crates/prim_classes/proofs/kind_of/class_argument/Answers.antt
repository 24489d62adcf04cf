use Rattle.prim_classes.proofs.Steps.{steps}
use Rattle.prim_classes.proofs.kind_of.class_argument.Goals as goal

pub returns-in_err-name : goal.returns-in_err-name
returns-in_err-name g c = search (steps, c.reference_in.ensures, c.in_err-name.ensures, c.from_residual.ensures.1)

use Rattle.prim_parts.proofs.Does.{does_then}
use Rattle.prim_classes.proofs.Steps.{steps, does_no_memory}
use Rattle.prim_classes.proofs.segments.assigned.Goals as goal

pub returns-in_err-assign : goal.returns-in_err-assign
returns-in_err-assign g c = search (steps, c.in_err-assign.ensures, c.from_residual.ensures.1)

pub returns-in_err-clone : goal.returns-in_err-clone
returns-in_err-clone g c = does_then c.in_ok-assign.ensures (does_no_memory c.from_residual-in_err-clone.ensures.1)

use Rattle.prim_parts.proofs.Does.{does_then, does_assoc_back}
use Rattle.prim_classes.proofs.Steps.{steps}
use Rattle.prim_classes.proofs.segments.check_segment.Goals as goal

pub returns-in_err-rights : goal.returns-in_err-rights
returns-in_err-rights g c = search (steps, c.in_err-rights.ensures, c.from_residual.ensures.1, does_assoc_back)

pub returns : goal.returns
returns g c = does_assoc_back (does_then c.in_ok-rights.ensures c.check_writer.ensures)

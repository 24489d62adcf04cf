use Rattle.prim_parts.proofs.Onward.{does_stops}
use Rattle.prim_classes.proofs.any.string_of.Goals as goal

pub returns-in_err-segment : goal.returns-in_err-segment
returns-in_err-segment g c = λ whole is. does_stops c.in_err-segment.ensures c.from_residual.ensures.1

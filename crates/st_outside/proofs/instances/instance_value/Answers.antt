use Rattle.prim_parts.proofs.Onward.{computes_stops}
use Rattle.st_outside.proofs.instances.instance_value.Goals as goal

pub returns-in_err-name : goal.returns-in_err-name
returns-in_err-name g c = computes_stops c.in_err-name.ensures c.from_residual.ensures.1

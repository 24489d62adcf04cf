use Rattle.prim_parts.proofs.Onward.{does_stops}
use Rattle.st_outside.proofs.look_up.start_for_super.Goals as goal

pub returns-in_err-start_of_receiver : goal.returns-in_err-start_of_receiver
returns-in_err-start_of_receiver g c = does_stops c.in_err-start_of_receiver.ensures c.from_residual.ensures.1

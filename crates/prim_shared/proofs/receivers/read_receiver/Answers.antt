use Rattle.prim_parts.proofs.Does.{computes_stop}
use Rattle.prim_shared.proofs.Steps.{handed_received}
use Rattle.prim_shared.specs.Kinds.{held_in}
use Rattle.prim_shared.proofs.receivers.read_receiver.Goals as goal

pub returns-in_err-name : goal.returns-in_err-name
returns-in_err-name g c = handed_received (held_in c.args.kind) c.from_residual.result c.from_residual.ensures.1
    (computes_stop _ c.in_err-name.ensures)

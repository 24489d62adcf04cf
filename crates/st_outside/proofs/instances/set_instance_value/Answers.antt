use Rattle.prim_parts.proofs.Does.{computes_then, does_then, does_atom}
use Rattle.prim_parts.proofs.Onward.{computes_stops}
use Rattle.st_outside.proofs.instances.set_instance_value.Goals as goal

pub returns-in_err-name : goal.returns-in_err-name
returns-in_err-name g c = computes_stops c.in_err-name.ensures c.from_residual.ensures.1

pub returns : goal.returns
returns g c =
    let reached = c.in_ok-write.ensures in
    computes_then c.in_ok-name.ensures
    (does_then (does_atom reached.acted) (c.put_in_slot.ensures reached.object reached.there))

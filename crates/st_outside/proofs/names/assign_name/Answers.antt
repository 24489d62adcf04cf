use Rattle.prim_parts.proofs.Does.{does_compute}
use Rattle.st_outside.proofs.Slots.{assigned_in_slot, assigned_to_none}
use Rattle.st_outside.proofs.names.assign_name.Goals as goal

pub returns-in-Some : goal.returns-in-Some
returns-in-Some g c = assigned_in_slot c.args.name.now c.args.frame.now c.args.slot c.in-Some.slot c.args.value
    c.receiver.result.now c.in-Some.is c.receiver.ensures c.set_instance_value.ensures

pub returns-in-None : goal.returns-in-None
returns-in-None g c = assigned_to_none c.args.name.now c.args.frame.now c.args.slot c.args.value c.in-None.is
    (does_compute (g.O.Objects.seen c.args.objects.now) c.undefined.ensures)

use Rattle.st_outside.proofs.Slots.{value_in_slot, value_of_global}
use Rattle.st_outside.proofs.names.value_of_name.Goals as goal

pub returns-in-Some : goal.returns-in-Some
returns-in-Some g c = value_in_slot c.args.name.now c.args.frame.now c.args.slot c.in-Some.slot c.receiver.result.now
    c.in-Some.is c.receiver.ensures c.instance_value.ensures

pub returns-in-None : goal.returns-in-None
returns-in-None g c = value_of_global c.args.name.now c.args.frame.now c.args.slot c.in-None.is c.global_value.ensures

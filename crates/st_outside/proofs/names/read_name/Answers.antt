use Rattle.st_outside.proofs.Slots.{read_stop, read_then}
use Rattle.st_outside.proofs.names.read_name.Goals as goal

pub returns-in_err-slot : goal.returns-in_err-slot
returns-in_err-slot g c =
    read_stop c.args.name.now c.args.frame.now c.in_err-slot.ensures c.from_residual.ensures.1

pub returns : goal.returns
returns g c = read_then c.args.name.now c.args.frame.now c.in_ok-slot.slot c.in_ok-slot.ensures c.value_of_name.ensures

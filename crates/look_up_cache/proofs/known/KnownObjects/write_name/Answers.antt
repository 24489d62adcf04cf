use Rattle.st_outside.proofs.Slots.{write_stop, write_then}
use Rattle.look_up_cache.proofs.known.KnownObjects.write_name.Goals as goal

pub returns-in_err-slot : goal.returns-in_err-slot
returns-in_err-slot g c =
    write_stop c.args.name.now c.args.frame.now c.args.value c.in_err-slot.ensures c.from_residual.ensures.1

pub returns : goal.returns
returns g c = write_then c.args.name.now c.args.frame.now c.in_ok-slot.slot c.args.value c.in_ok-slot.ensures
    c.assign_name.ensures

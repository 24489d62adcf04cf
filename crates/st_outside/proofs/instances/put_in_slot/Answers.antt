use Rattle.prim_parts.proofs.Does.{does_then, computes_then}
use Rattle.st_outside.proofs.Steps.{does_given}
use Rattle.prim_parts.proofs.Onward.{does_stops, computes_stops}
use Rattle.st_outside.proofs.Slots.{put_where}
use Rattle.st_outside.proofs.instances.put_in_slot.Goals as goal

pub returns-in_err-check_stored : goal.returns-in_err-check_stored
returns-in_err-check_stored g c =
    λ object there. computes_stops c.in_err-check_stored.ensures c.from_residual.ensures.1

pub returns-in_err-check : goal.returns-in_err-check
returns-in_err-check g c = λ object there.
    put_where c.args.name object c.args.slot c.args.value c.slots_of.result (c.slots_of.ensures object there)
    c.in_ok-check_stored.ensures (computes_stops c.in_err-check.ensures c.from_residual-in_err-check.ensures.1)

pub returns-in_err-replace_slot : goal.returns-in_err-replace_slot
returns-in_err-replace_slot g c = λ object there.
    put_where c.args.name object c.args.slot c.args.value c.slots_of.result (c.slots_of.ensures object there)
    c.in_ok-check_stored.ensures (computes_then c.in_ok-check.ensures
    (does_stops (c.in_err-replace_slot.ensures object there) c.from_residual-in_err-replace_slot.ensures.1))

pub returns : goal.returns
returns g c = λ object there.
    put_where c.args.name object c.args.slot c.args.value c.slots_of.result (c.slots_of.ensures object there)
    c.in_ok-check_stored.ensures (computes_then c.in_ok-check.ensures
    (does_then (c.in_ok-replace_slot.ensures object there) (does_given c.in_ok-answer.ensures.cases)))

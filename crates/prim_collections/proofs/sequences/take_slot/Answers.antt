use Rattle.prim_parts.proofs.Does.{does_then, does_stop, does_give}
use Rattle.std.proofs.lemmas.Result.{err_from_is_err_and}
use Rattle.prim_collections.proofs.sequences.take_slot.Goals as goal

pub returns-in_err-value : goal.returns-in_err-value
returns-in_err-value g c = λ object there.
    let p = err_from_is_err_and c.from_residual.result c.from_residual.ensures.1 in
    rw (p.1, p.2) (does_stop (c.in_err-value.ensures object there))

pub returns-in_err-remove_slot : goal.returns-in_err-remove_slot
returns-in_err-remove_slot g c = λ object there.
    let p = err_from_is_err_and c.from_residual-in_err-remove_slot.result c.from_residual-in_err-remove_slot.ensures.1 in
    rw (p.1, p.2) (does_then (c.in_ok-value.ensures object there) (does_stop (c.in_err-remove_slot.ensures object there)))

pub returns : goal.returns
returns g c = λ object there. does_then (c.in_ok-value.ensures object there)
    (does_then (c.in_ok-remove_slot.ensures object there) (does_give _ _))

use Rattle.prim_parts.proofs.Does.{does_then, does_stop, does_give}
use Rattle.std.proofs.lemmas.Result.{err_from_is_err_and}
use Rattle.prim_collections.proofs.sequences.add_slot.Goals as goal

pub returns-in_err-insert_slot : goal.returns-in_err-insert_slot
returns-in_err-insert_slot g c = λ object there.
    let p = err_from_is_err_and c.from_residual-in_err-insert_slot.result c.from_residual-in_err-insert_slot.ensures.1 in
    rw (p.1, p.2) (does_stop (rw c.in_ok-copy.ensures.cases at (c.in_err-insert_slot.ensures object there)))

pub returns : goal.returns
returns g c = λ object there. does_then
    (rw c.in_ok-copy.ensures.cases at (c.in_ok-insert_slot.ensures object there))
    (rw c.in_ok-clone.ensures.cases (does_give _ _))

use Rattle.prim_parts.proofs.Does.{does_then, does_stop, computes_then, computes_stop}
use Rattle.std.proofs.lemmas.Result.{err_from_is_err_and}
use Rattle.prim_collections.proofs.dictionaries.put_at_key.Goals as goal

pub returns-in_err-name : goal.returns-in_err-name
returns-in_err-name g c =
    let p = err_from_is_err_and c.from_residual.result c.from_residual.ensures.1 in
    rw (p.1, p.2) (does_stop c.in_err-name.ensures)

pub returns-in_err-key : goal.returns-in_err-key
returns-in_err-key g c =
    let p = err_from_is_err_and c.from_residual-in_err-key.result c.from_residual-in_err-key.ensures.1 in
    rw (p.1, p.2) (does_then c.in_ok-name.ensures.does (computes_stop _ c.in_err-key.ensures))

pub returns-in_err-check_key : goal.returns-in_err-check_key
returns-in_err-check_key g c =
    let p = err_from_is_err_and c.from_residual-in_err-check_key.result c.from_residual-in_err-check_key.ensures.1 in
    rw (p.1, p.2) (does_then c.in_ok-name.ensures.does (computes_then c.in_ok-key.ensures (computes_stop _
    c.in_err-check_key.ensures)))

pub returns-in_err-check_stored : goal.returns-in_err-check_stored
returns-in_err-check_stored g c =
    let p = err_from_is_err_and c.from_residual-in_err-check_stored.result c.from_residual-in_err-check_stored.ensures.1 in
    rw (p.1, p.2) (does_then c.in_ok-name.ensures.does (computes_then c.in_ok-key.ensures (computes_then c.in_ok-check_key.ensures
    (computes_stop _ c.in_err-check_stored.ensures))))

pub returns : goal.returns
returns g c =
    does_then c.in_ok-name.ensures.does (computes_then c.in_ok-key.ensures (computes_then c.in_ok-check_key.ensures
    (computes_then c.in_ok-check_stored.ensures (c.put.ensures c.in_ok-name.ensures.object c.in_ok-name.ensures.there))))

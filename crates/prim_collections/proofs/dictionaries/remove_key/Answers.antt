use Rattle.prim_parts.proofs.Does.{does_then, does_stop, does_give, computes_then, computes_stop}
use Rattle.std.proofs.lemmas.Result.{err_from_is_err_and}
use Rattle.prim_collections.proofs.dictionaries.remove_key.Goals as goal

pub returns-in_err-name : goal.returns-in_err-name
returns-in_err-name g c =
    let p = err_from_is_err_and c.from_residual.result c.from_residual.ensures.1 in
    rw (p.1, p.2) (does_stop c.in_err-name.ensures)

pub returns-in_err-key : goal.returns-in_err-key
returns-in_err-key g c =
    let p = err_from_is_err_and c.from_residual-in_err-key.result c.from_residual-in_err-key.ensures.1 in
    rw (p.1, p.2) (does_then c.in_ok-name.ensures.does (computes_stop _ c.in_err-key.ensures))

pub returns-in_err-value : goal.returns-in_err-value
returns-in_err-value g c =
    let p = err_from_is_err_and c.from_residual-in_err-value.result c.from_residual-in_err-value.ensures.1 in
    rw (p.1, p.2) (does_then c.in_ok-name.ensures.does (computes_then c.in_ok-key.ensures
    (does_stop (c.in_err-value.ensures c.in_ok-name.ensures.object c.in_ok-name.ensures.there))))

pub returns-in_err-remove_pair : goal.returns-in_err-remove_pair
returns-in_err-remove_pair g c =
    let p = err_from_is_err_and c.from_residual-in_err-remove_pair.result c.from_residual-in_err-remove_pair.ensures.1 in
    rw (p.1, p.2) (does_then c.in_ok-name.ensures.does (computes_then c.in_ok-key.ensures (does_then
    (c.in_ok-value.ensures c.in_ok-name.ensures.object c.in_ok-name.ensures.there)
    (does_stop (c.in_err-remove_pair.ensures c.in_ok-name.ensures.object c.in_ok-name.ensures.there)))))

pub returns : goal.returns
returns g c =
    does_then c.in_ok-name.ensures.does (computes_then c.in_ok-key.ensures (does_then (c.in_ok-value.ensures
    c.in_ok-name.ensures.object c.in_ok-name.ensures.there)
    (does_then (c.in_ok-remove_pair.ensures c.in_ok-name.ensures.object c.in_ok-name.ensures.there) (does_give _ _))))

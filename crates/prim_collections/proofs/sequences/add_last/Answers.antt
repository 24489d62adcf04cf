use Rattle.prim_parts.proofs.Does.{does_then, does_stop, does_give, computes_then, computes_stop}
use Rattle.std.proofs.lemmas.Result.{err_from_is_err_and}
use Rattle.prim_collections.proofs.sequences.add_last.Goals as goal

pub returns-in_err-name : goal.returns-in_err-name
returns-in_err-name g c =
    let p = err_from_is_err_and c.from_residual.result c.from_residual.ensures.1 in
    rw (p.1, p.2) (computes_stop _ c.in_err-name.ensures)

pub returns-in_err-value : goal.returns-in_err-value
returns-in_err-value g c =
    let p = err_from_is_err_and c.from_residual-in_err-value.result c.from_residual-in_err-value.ensures.1 in
    rw (p.1, p.2) (computes_then c.in_ok-name.ensures (computes_stop _ c.in_err-value.ensures))

pub returns-in_err-last_added : goal.returns-in_err-last_added
returns-in_err-last_added g c =
    let p = err_from_is_err_and c.from_residual-in_err-last_added.result c.from_residual-in_err-last_added.ensures.1 in
    rw (p.1, p.2) (computes_then c.in_ok-name.ensures (computes_then c.in_ok-value.ensures (does_stop
    c.in_err-last_added.ensures)))

pub returns : goal.returns
returns g c =
    computes_then c.in_ok-name.ensures (computes_then c.in_ok-value.ensures (does_then c.in_ok-last_added.ensures
    (does_give _ _)))

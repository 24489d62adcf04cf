use Rattle.prim_parts.proofs.Does.{does_then, does_stop, does_give, computes_then, computes_stop}
use Rattle.std.proofs.lemmas.Result.{err_from_is_err_and}
use Rattle.prim_collections.proofs.sequences.element.Goals as goal

pub returns-in_err-name : goal.returns-in_err-name
returns-in_err-name g c =
    let p = err_from_is_err_and c.from_residual.result c.from_residual.ensures.1 in
    rw (p.1, p.2) (computes_stop _ c.in_err-name.ensures)

pub returns-in_err-index : goal.returns-in_err-index
returns-in_err-index g c =
    let p = err_from_is_err_and c.from_residual-in_err-index.result c.from_residual-in_err-index.ensures.1 in
    rw (p.1, p.2) (computes_then c.in_ok-name.ensures (computes_stop _ c.in_err-index.ensures))

pub returns-in_err-element_at : goal.returns-in_err-element_at
returns-in_err-element_at g c =
    let p = err_from_is_err_and c.from_residual-in_err-element_at.result c.from_residual-in_err-element_at.ensures.1 in
    rw (p.1, p.2) (computes_then c.in_ok-name.ensures (computes_then c.in_ok-index.ensures (does_stop
    c.in_err-element_at.ensures)))

pub returns : goal.returns
returns g c =
    computes_then c.in_ok-name.ensures (computes_then c.in_ok-index.ensures (does_then c.in_ok-element_at.ensures
    (does_give _ _)))

use Rattle.prim_parts.proofs.Does.{does_then, does_stop, does_give, computes_then, computes_stop}
use Rattle.std.proofs.lemmas.Result.{err_from_is_err_and}
use Rattle.prim_collections.proofs.copies.copy_part.Goals as goal

pub returns-in_err-name : goal.returns-in_err-name
returns-in_err-name g c =
    let p = err_from_is_err_and c.from_residual.result c.from_residual.ensures.1 in
    rw (p.1, p.2) (computes_stop _ c.in_err-name.ensures)

pub returns-in_err-from : goal.returns-in_err-from
returns-in_err-from g c =
    let p = err_from_is_err_and c.from_residual-in_err-from.result c.from_residual-in_err-from.ensures.1 in
    rw (p.1, p.2) (computes_then c.in_ok-name.ensures (computes_stop _ c.in_err-from.ensures))

pub returns-in_err-part_copied : goal.returns-in_err-part_copied
returns-in_err-part_copied g c =
    let p = err_from_is_err_and c.from_residual-in_err-part_copied.result c.from_residual-in_err-part_copied.ensures.1 in
    rw (p.1, p.2) (computes_then c.in_ok-name.ensures (computes_then c.in_ok-from.ensures (does_stop
    c.in_err-part_copied.ensures)))

pub returns : goal.returns
returns g c =
    computes_then c.in_ok-name.ensures (computes_then c.in_ok-from.ensures (does_then c.in_ok-part_copied.ensures
    (does_give _ _)))

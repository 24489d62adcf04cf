use Rattle.prim_parts.proofs.Does.{does_then, does_stop, does_give, computes_then, computes_stop}
use Rattle.std.proofs.lemmas.Result.{err_from_is_err_and}
use Rattle.prim_collections.proofs.sequences.remove_last.Goals as goal

pub returns-in_err-name : goal.returns-in_err-name
returns-in_err-name g c =
    let p = err_from_is_err_and c.from_residual.result c.from_residual.ensures.1 in
    rw (p.1, p.2) (computes_stop _ c.in_err-name.ensures)

pub returns-in_err-no_arguments : goal.returns-in_err-no_arguments
returns-in_err-no_arguments g c =
    let p = err_from_is_err_and c.from_residual-in_err-no_arguments.result c.from_residual-in_err-no_arguments.ensures.1 in
    rw (p.1, p.2) (computes_then c.in_ok-name.ensures (computes_stop _ c.in_err-no_arguments.ensures))

pub returns-in_err-last_removed : goal.returns-in_err-last_removed
returns-in_err-last_removed g c =
    let p = err_from_is_err_and c.from_residual-in_err-last_removed.result c.from_residual-in_err-last_removed.ensures.1 in
    rw (p.1, p.2) (computes_then c.in_ok-name.ensures (computes_then c.in_ok-no_arguments.ensures (does_stop
    c.in_err-last_removed.ensures)))

pub returns : goal.returns
returns g c =
    computes_then c.in_ok-name.ensures (computes_then c.in_ok-no_arguments.ensures (does_then c.in_ok-last_removed.ensures
    (does_give _ _)))

use Rattle.prim_parts.proofs.Does.{does_then, does_stop, computes_then, computes_stop}
use Rattle.prim_collections.proofs.Rows.{held_again, never_other}
use Rattle.std.proofs.lemmas.Result.{err_from_is_err_and}
use Rattle.std.proofs.Common.{sym}
use Rattle.prim_collections.proofs.dictionaries.keys.Goals as goal

pub returns-in_err-name : goal.returns-in_err-name
returns-in_err-name g c =
    let p = err_from_is_err_and c.from_residual.result c.from_residual.ensures.1 in
    rw (p.1, p.2) (does_stop c.in_err-name.ensures)

pub returns-in_err-no_arguments : goal.returns-in_err-no_arguments
returns-in_err-no_arguments g c =
    let p = err_from_is_err_and c.from_residual-in_err-no_arguments.result c.from_residual-in_err-no_arguments.ensures.1 in
    rw (p.1, p.2) (does_then c.in_ok-name.ensures.does (computes_stop _ c.in_err-no_arguments.ensures))

pub returns-in_err-pairs_at : goal.returns-in_err-pairs_at
returns-in_err-pairs_at g c =
    let p = err_from_is_err_and c.from_residual-in_err-pairs_at.result c.from_residual-in_err-pairs_at.ensures.1 in
    rw (p.1, p.2) (does_then c.in_ok-name.ensures.does (computes_then c.in_ok-no_arguments.ensures
    (never_other _ c.in_ok-name.ensures c.in_err-pairs_at.ensures)))

pub returns : goal.returns
returns g c =
    does_then c.in_ok-name.ensures.does (computes_then c.in_ok-no_arguments.ensures
    (rw (sym (held_again c.in_ok-name.ensures c.in_ok-pairs_at.ensures), sym c.in_ok-keys.ensures) c.new_array.ensures))

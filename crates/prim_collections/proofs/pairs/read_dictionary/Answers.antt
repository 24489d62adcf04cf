use Rattle.prim_parts.proofs.Does.{computes_stop}
use Rattle.prim_collections.proofs.Rows.{reaches, reaches_other}
use Rattle.std.proofs.lemmas.Result.{err_from_is_err_and}
use Rattle.prim_collections.proofs.pairs.read_dictionary.Goals as goal

pub returns-in_err-name : goal.returns-in_err-name
returns-in_err-name g c =
    let p = err_from_is_err_and c.from_residual.result c.from_residual.ensures.1 in
    rw (p.1, p.2) (computes_stop _ c.in_err-name.ensures)

pub returns-in_err-pairs_at : goal.returns-in_err-pairs_at
returns-in_err-pairs_at g c =
    let p = err_from_is_err_and c.from_residual-in_err-pairs_at.result c.from_residual-in_err-pairs_at.ensures.1 in
    rw (p.1, p.2) (reaches_other _ _ c.in_ok-name.ensures c.in_ok-read.ensures c.in_err-pairs_at.ensures)

pub returns : goal.returns
returns g c = reaches _ c.in_ok-name.ensures c.in_ok-read.ensures c.in_ok-pairs_at.ensures

use Rattle.prim_parts.proofs.Does.{computes_give}
use Rattle.prim_parts.proofs.Onward.{computes_on, computes_off}
use Rattle.std.proofs.lemmas.Result.{err_from_is_err_and}
use Rattle.prim_collections.proofs.pairs.key_argument.Goals as goal

pub returns-in_err-key : goal.returns-in_err-key
returns-in_err-key c =
    let p = err_from_is_err_and c.from_residual.result c.from_residual.ensures.1 in
    rw (p.1, p.2) (computes_off c.in_err-key.ensures)

pub returns-in_err-check_key : goal.returns-in_err-check_key
returns-in_err-check_key c =
    let p = err_from_is_err_and c.from_residual-in_err-check_key.result c.from_residual-in_err-check_key.ensures.1 in
    rw (p.1, p.2) (computes_on c.in_ok-key.ensures (computes_off c.in_err-check_key.ensures))

pub returns : goal.returns
returns c = computes_on c.in_ok-key.ensures (computes_on c.in_ok-check_key.ensures (computes_give _))

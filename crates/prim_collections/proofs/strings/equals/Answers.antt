use Rattle.prim_parts.proofs.Does.{does_then, does_stop, does_give, computes_then, computes_stop}
use Rattle.std.proofs.lemmas.Result.{err_from_is_err_and}
use Rattle.prim_collections.proofs.strings.equals.Goals as goal

pub returns-in_err-argument : goal.returns-in_err-argument
returns-in_err-argument g c =
    let p = err_from_is_err_and c.from_residual.result c.from_residual.ensures.1 in
    rw (p.1, p.2) (computes_stop _ c.in_err-argument.ensures)

pub returns-in_err-is_equal : goal.returns-in_err-is_equal
returns-in_err-is_equal g c =
    let p = err_from_is_err_and c.from_residual-in_err-is_equal.result c.from_residual-in_err-is_equal.ensures.1 in
    rw (p.1, p.2) (computes_then c.in_ok-argument.ensures (does_stop c.in_err-is_equal.ensures))

pub returns : goal.returns
returns g c =
    computes_then c.in_ok-argument.ensures (does_then c.in_ok-is_equal.ensures (does_give _ _))

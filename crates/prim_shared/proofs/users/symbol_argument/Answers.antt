use Rattle.prim_parts.proofs.Onward.{computes_on, computes_off}
use Rattle.std.proofs.lemmas.Result.{err_from_is_err_and}
use Rattle.prim_shared.proofs.users.symbol_argument.Goals as goal

pub returns-in_err-one_of : goal.returns-in_err-one_of
returns-in_err-one_of c =
    let p = err_from_is_err_and c.from_residual.result c.from_residual.ensures.1 in
    rw (p.1, p.2) (computes_off c.in_err-one_of.ensures)

pub returns : goal.returns
returns c = computes_on c.in_ok-one_of.ensures (c.symbol_in.ensures)

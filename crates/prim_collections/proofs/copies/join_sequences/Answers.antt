use Rattle.prim_parts.proofs.Does.{does_then, does_stop, does_give, computes_then, computes_stop}
use Rattle.std.proofs.lemmas.Result.{err_from_is_err_and}
use Rattle.prim_collections.proofs.copies.join_sequences.Goals as goal

pub returns-in_err-name : goal.returns-in_err-name
returns-in_err-name g c =
    let p = err_from_is_err_and c.from_residual.result c.from_residual.ensures.1 in
    rw (p.1, p.2) (computes_stop _ c.in_err-name.ensures)

pub returns-in_err-argument : goal.returns-in_err-argument
returns-in_err-argument g c =
    let p = err_from_is_err_and c.from_residual-in_err-argument.result c.from_residual-in_err-argument.ensures.1 in
    rw (p.1, p.2) (computes_then c.in_ok-name.ensures (computes_stop _ c.in_err-argument.ensures))

pub returns-in_err-sequences_joined : goal.returns-in_err-sequences_joined
returns-in_err-sequences_joined g c =
    let p = err_from_is_err_and c.from_residual-in_err-sequences_joined.result
    c.from_residual-in_err-sequences_joined.ensures.1 in
    rw (p.1, p.2) (computes_then c.in_ok-name.ensures (computes_then c.in_ok-argument.ensures (does_stop
    c.in_err-sequences_joined.ensures)))

pub returns : goal.returns
returns g c =
    computes_then c.in_ok-name.ensures (computes_then c.in_ok-argument.ensures (does_then c.in_ok-sequences_joined.ensures
    (does_give _ _)))

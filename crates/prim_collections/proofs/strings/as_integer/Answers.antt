use Rattle.prim_parts.proofs.Does.{does_then, does_stop, does_give, computes_then, computes_stop, computes_give}
use Rattle.std.proofs.lemmas.Result.{err_from_is_err_and}
use Rattle.prim_collections.proofs.strings.as_integer.Goals as goal

pub returns-in_err-name : goal.returns-in_err-name
returns-in_err-name g c =
    let p = err_from_is_err_and c.from_residual.result c.from_residual.ensures.1 in
    rw (p.1, p.2) (computes_stop _ c.in_err-name.ensures)

pub returns-in_err-no_arguments : goal.returns-in_err-no_arguments
returns-in_err-no_arguments g c =
    let p = err_from_is_err_and c.from_residual-in_err-no_arguments.result c.from_residual-in_err-no_arguments.ensures.1 in
    rw (p.1, p.2) (computes_then c.in_ok-name.ensures (computes_stop _ c.in_err-no_arguments.ensures))

pub returns-in_err-text : goal.returns-in_err-text
returns-in_err-text g c =
    let p = err_from_is_err_and c.from_residual-in_err-text.result c.from_residual-in_err-text.ensures.1 in
    rw (p.1, p.2) (computes_then c.in_ok-name.ensures (computes_then c.in_ok-no_arguments.ensures (does_stop
    c.in_err-text.ensures)))

pub returns : goal.returns
returns g c =
    computes_then c.in_ok-name.ensures (computes_then c.in_ok-no_arguments.ensures (does_then c.in_ok-text.ensures (rw
    (c.number_or_nil.ensures, c.integer_in.ensures, c.bytes.ensures) (computes_then (computes_give _) (does_give _ _)))))

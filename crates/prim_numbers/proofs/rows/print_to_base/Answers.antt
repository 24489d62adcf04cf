use Rattle.std.proofs.Common.{rules}
use Rattle.std.specs.Int.{w64}
use Rattle.std.specs.Prelude.{FitsSigned}
use Rattle.std.proofs.lemmas.Int.{to_z-of_z}
use Rattle.prim_parts.proofs.Does.{does_then, does_exit, does_give, computes_then, does_compute}
use Rattle.prim_numbers.proofs.rows.print_to_base.Goals as goal

pub returns-in_err-number : goal.returns-in_err-number
returns-in_err-number g c = does_exit c.from_residual.result c.from_residual.ensures.1
    (does_compute _ c.in_err-number.ensures)

pub returns-in_err-argument : goal.returns-in_err-argument
returns-in_err-argument g c = computes_then c.in_ok-number.ensures
    (does_exit c.from_residual-in_err-argument.result c.from_residual-in_err-argument.ensures.1
    (does_compute _ c.in_err-argument.ensures))

pub returns-in_err-base : goal.returns-in_err-base
returns-in_err-base g c = computes_then c.in_ok-number.ensures (computes_then c.in_ok-argument.ensures
    (does_exit c.from_residual-in_err-base.result c.from_residual-in_err-base.ensures.1
    (does_compute _ c.in_err-base.ensures)))

pub returns-in_err-value : goal.returns-in_err-value
returns-in_err-value g c =
    let n : FitsSigned w64 c.in_ok-number.number = search rules in
    let b : FitsSigned w64 c.in_ok-base.base = search rules in
    let value = rw (to_z-of_z w64 c.in_ok-number.number n, to_z-of_z w64 c.in_ok-base.base b) at c.in_err-value.ensures in
    computes_then c.in_ok-number.ensures (computes_then c.in_ok-argument.ensures (computes_then c.in_ok-base.ensures
    (does_exit c.from_residual-in_err-value.result c.from_residual-in_err-value.ensures.1 value)))

pub returns : goal.returns
returns g c =
    let n : FitsSigned w64 c.in_ok-number.number = search rules in
    let b : FitsSigned w64 c.in_ok-base.base = search rules in
    let value = rw (to_z-of_z w64 c.in_ok-number.number n, to_z-of_z w64 c.in_ok-base.base b) at c.in_ok-value.ensures in
    computes_then c.in_ok-number.ensures (computes_then c.in_ok-argument.ensures (computes_then c.in_ok-base.ensures
    (does_then value (does_give _ _))))

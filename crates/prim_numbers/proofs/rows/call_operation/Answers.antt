use Rattle.std.proofs.Common.{rules}
use Rattle.std.specs.Int.{w64}
use Rattle.std.specs.Prelude.{FitsSigned}
use Rattle.std.proofs.lemmas.Int.{to_z-of_z}
use Rattle.prim_numbers.proofs.Computing.{computes_exit, answered_on, answered_exit}
use Rattle.prim_parts.proofs.Onward.{computes_on}
use Rattle.prim_numbers.proofs.rows.call_operation.Goals as goal

pub returns-in_err-number : goal.returns-in_err-number
returns-in_err-number c = computes_exit c.from_residual.result c.from_residual.ensures.1 c.in_err-number.ensures

pub returns-in_err-argument : goal.returns-in_err-argument
returns-in_err-argument c = computes_on c.in_ok-number.ensures
    (computes_exit c.from_residual-in_err-argument.result c.from_residual-in_err-argument.ensures.1
    c.in_err-argument.ensures)

pub returns-in_err-other : goal.returns-in_err-other
returns-in_err-other c = computes_on c.in_ok-number.ensures (computes_on c.in_ok-argument.ensures
    (computes_exit c.from_residual-in_err-other.result c.from_residual-in_err-other.ensures.1 c.in_err-other.ensures))

pub returns-in_err-value : goal.returns-in_err-value
returns-in_err-value c =
    let n : FitsSigned w64 c.in_ok-number.number = search rules in
    let o : FitsSigned w64 c.in_ok-other.other = search rules in
    let value = rw (to_z-of_z w64 c.in_ok-number.number n, to_z-of_z w64 c.in_ok-other.other o) at c.in_err-value.ensures in
    computes_on c.in_ok-number.ensures (computes_on c.in_ok-argument.ensures (computes_on c.in_ok-other.ensures
    (answered_exit c.from_residual-in_err-value.result c.from_residual-in_err-value.ensures.1 value)))

pub returns : goal.returns
returns c =
    let n : FitsSigned w64 c.in_ok-number.number = search rules in
    let o : FitsSigned w64 c.in_ok-other.other = search rules in
    let value = rw (to_z-of_z w64 c.in_ok-number.number n, to_z-of_z w64 c.in_ok-other.other o) at c.in_ok-value.ensures in
    computes_on c.in_ok-number.ensures (computes_on c.in_ok-argument.ensures
    (computes_on c.in_ok-other.ensures (answered_on value)))

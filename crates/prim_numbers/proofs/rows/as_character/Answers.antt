use Rattle.std.proofs.Common.{rules}
use Rattle.std.specs.Int.{w64}
use Rattle.std.specs.Prelude.{FitsSigned}
use Rattle.std.proofs.lemmas.Int.{to_z-of_z}
use Rattle.prim_numbers.proofs.Computing.{computes_exit, answered_exit}
use Rattle.prim_parts.proofs.Onward.{computes_on}
use Rattle.prim_numbers.proofs.rows.as_character.Goals as goal

pub returns-in_err-number : goal.returns-in_err-number
returns-in_err-number c = computes_exit c.from_residual.result c.from_residual.ensures.1 c.in_err-number.ensures

pub returns-in_err-no_arguments : goal.returns-in_err-no_arguments
returns-in_err-no_arguments c = computes_on c.in_ok-number.ensures
    (computes_exit c.from_residual-in_err-no_arguments.result c.from_residual-in_err-no_arguments.ensures.1
    c.in_err-no_arguments.ensures)

pub returns-in_err-value : goal.returns-in_err-value
returns-in_err-value c =
    let n : FitsSigned w64 c.in_ok-number.number = search rules in
    let value = rw (to_z-of_z w64 c.in_ok-number.number n) at c.in_err-value.ensures in
    computes_on c.in_ok-number.ensures (computes_on c.in_ok-no_arguments.ensures
    (answered_exit c.from_residual-in_err-value.result c.from_residual-in_err-value.ensures.1 value))

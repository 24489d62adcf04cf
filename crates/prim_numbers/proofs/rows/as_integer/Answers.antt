use Rattle.prim_numbers.proofs.Computing.{computes_exit}
use Rattle.prim_parts.proofs.Onward.{computes_on}
use Rattle.prim_numbers.proofs.rows.as_integer.Goals as goal

pub returns-in_err-code : goal.returns-in_err-code
returns-in_err-code c = computes_exit c.from_residual.result c.from_residual.ensures.1 c.in_err-code.ensures

pub returns-in_err-no_arguments : goal.returns-in_err-no_arguments
returns-in_err-no_arguments c = computes_on c.in_ok-code.ensures
    (computes_exit c.from_residual-in_err-no_arguments.result c.from_residual-in_err-no_arguments.ensures.1
    c.in_err-no_arguments.ensures)

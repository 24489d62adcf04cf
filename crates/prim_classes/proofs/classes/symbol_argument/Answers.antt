use Rattle.prim_classes.proofs.Steps.{computes_ends}
use Rattle.prim_parts.proofs.Onward.{computes_on}
use Rattle.prim_classes.proofs.ClassFacts.{exit_pointed}
use Rattle.prim_classes.proofs.classes.symbol_argument.Goals as goal

pub returns-in_err-argument : goal.returns-in_err-argument
returns-in_err-argument c = computes_ends c.in_err-argument.ensures (exit_pointed c.from_residual.result c.in_err-argument.field-0.0 c.from_residual.ensures.1)

pub returns : goal.returns
returns c = computes_on c.in_ok-argument.ensures c.symbol_in.ensures

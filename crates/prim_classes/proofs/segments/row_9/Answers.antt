use Rattle.prim_parts.proofs.Does.{does_then, does_give, computes_then}
use Rattle.prim_classes.proofs.Steps.{steps}
use Rattle.prim_classes.proofs.segments.row_9.Goals as goal

pub returns-in_err-argument : goal.returns-in_err-argument
returns-in_err-argument g c = search (steps, c.in_err-argument.ensures, c.from_residual.ensures.1)

pub returns-in_err-assigned : goal.returns-in_err-assigned
returns-in_err-assigned g c = search (steps, c.in_ok-argument.ensures, c.in_err-assigned.ensures, c.from_residual-in_err-assigned.ensures.1)

pub returns : goal.returns
returns g c = computes_then c.in_ok-argument.ensures (does_then c.in_ok-assigned.ensures (does_give _ _))

use Rattle.prim_classes.proofs.Steps.{steps}
use Rattle.prim_classes.proofs.any.same_row.Goals as goal

pub returns-in_err-argument : goal.returns-in_err-argument
returns-in_err-argument c = search (steps, c.one_of.ensures, c.in_err-argument.ensures, c.from_residual.ensures.1)

pub returns-in_err-same : goal.returns-in_err-same
returns-in_err-same c = search (steps, c.one_of.ensures, c.in_ok-argument.ensures, c.in_err-same.ensures, c.from_residual-in_err-same.ensures.1)

pub returns : goal.returns
returns c = search (steps, c.one_of.ensures, c.in_ok-argument.ensures, c.in_ok-same.ensures)

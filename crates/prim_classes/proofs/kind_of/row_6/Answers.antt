use Rattle.prim_classes.proofs.Steps.{steps}
use Rattle.prim_classes.proofs.kind_of.row_6.Goals as goal

pub returns-in_err-argument : goal.returns-in_err-argument
returns-in_err-argument g c = search (steps, c.one_of.ensures, c.in_err-argument.ensures, c.from_residual.ensures.1)

pub returns-in_err-is_kind_of : goal.returns-in_err-is_kind_of
returns-in_err-is_kind_of g c = search (steps, c.one_of.ensures, c.in_ok-argument.ensures, c.is_kind_of.ensures, c.in_err-is_kind_of.ensures, c.from_residual-in_err-is_kind_of.ensures.1)

pub returns : goal.returns
returns g c = search (steps, c.one_of.ensures, c.in_ok-argument.ensures, c.is_kind_of.ensures, c.in_ok-is_kind_of.ensures)

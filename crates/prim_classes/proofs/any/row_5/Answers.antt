use Rattle.prim_classes.proofs.Steps.{steps}
use Rattle.prim_classes.proofs.any.row_5.Goals as goal

pub returns-in_err-argument : goal.returns-in_err-argument
returns-in_err-argument g c = search (steps, c.one_of.ensures, c.in_err-argument.ensures, c.from_residual.ensures.1)

pub returns-in_err-text : goal.returns-in_err-text
returns-in_err-text g c = search (steps, c.one_of.ensures, c.in_ok-argument.ensures, c.text_of_argument.ensures, c.in_err-text.ensures, c.from_residual-in_err-text.ensures.1)

pub returns : goal.returns
returns g c = search (steps, c.one_of.ensures, c.in_ok-argument.ensures, c.text_of_argument.ensures, c.in_ok-text.ensures)

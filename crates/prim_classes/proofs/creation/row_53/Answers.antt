use Rattle.prim_parts.proofs.Does.{does_then, does_give, computes_then}
use Rattle.prim_classes.proofs.Steps.{steps}
use Rattle.prim_classes.proofs.creation.row_53.Goals as goal

pub returns-in_err-class : goal.returns-in_err-class
returns-in_err-class g c = search (steps, c.in_err-class.ensures, c.from_residual.ensures.1)

pub returns-in_err-argument : goal.returns-in_err-argument
returns-in_err-argument g c = search (steps, c.in_ok-class.ensures, c.in_err-argument.ensures, c.from_residual-in_err-argument.ensures.1)

pub returns-in_err-new_sized : goal.returns-in_err-new_sized
returns-in_err-new_sized g c = search (steps, c.in_ok-class.ensures, c.in_ok-argument.ensures, c.in_err-new_sized.ensures, c.from_residual-in_err-new_sized.ensures.1)

pub returns : goal.returns
returns g c = computes_then c.in_ok-class.ensures (computes_then c.in_ok-argument.ensures (does_then c.in_ok-new_sized.ensures (does_give _ _)))

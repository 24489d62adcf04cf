use Rattle.prim_classes.proofs.Steps.{steps, does_given}
use Rattle.prim_parts.proofs.Does.{does_then}
use Rattle.prim_classes.proofs.kind_of.is_kind_of.Goals as goal

pub returns-in_err-ancestor : goal.returns-in_err-ancestor
returns-in_err-ancestor g c = search (steps, c.class_argument.ensures, c.in_err-ancestor.ensures, c.from_residual.ensures.1)

pub returns-in_err-class : goal.returns-in_err-class
returns-in_err-class g c = search (steps, c.class_argument.ensures, c.in_ok-ancestor.ensures, c.in_err-class.ensures, c.from_residual-in_err-class.ensures.1)

pub returns-in_err-found : goal.returns-in_err-found
returns-in_err-found g c = search (steps, c.class_argument.ensures, c.in_ok-ancestor.ensures, c.in_ok-class.ensures, c.reads_up.ensures, c.in_err-found.ensures, c.from_residual-in_err-found.ensures.1)

pub returns : goal.returns
returns g c = does_then c.in_ok-ancestor.ensures (does_then c.in_ok-class.ensures (does_then c.in_ok-found.ensures
    (does_given c.truth.ensures)))

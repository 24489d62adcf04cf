use Rattle.prim_parts.proofs.Does.{does_then, does_exit, computes_then}
use Rattle.prim_parts.proofs.Onward.{computes_stops}
use Rattle.prim_classes.proofs.classes.row_54.Goals as goal

pub returns-in_err-superclass : goal.returns-in_err-superclass
returns-in_err-superclass g c = computes_stops c.in_err-superclass.ensures c.from_residual.ensures.1

pub returns-in_err-name : goal.returns-in_err-name
returns-in_err-name g c = computes_then c.in_ok-superclass.ensures (computes_stops c.in_err-name.ensures c.from_residual-in_err-name.ensures.1)

pub returns-in_err-class : goal.returns-in_err-class
returns-in_err-class g c = computes_then c.in_ok-superclass.ensures (computes_then c.in_ok-name.ensures
    (does_exit _ c.from_residual-in_err-class.ensures.1 c.in_err-class.ensures.does))

pub returns : goal.returns
returns g c = computes_then c.in_ok-superclass.ensures (computes_then c.in_ok-name.ensures
    (does_then c.in_ok-class.ensures.does c.made_class.ensures))

use Rattle.object_programs.specs.declared.fault.Fault.TheVariants as fault
use Rattle.std.proofs.Common.{sym, ap}
use Rattle.object_programs.specs.Fixed.{class_part}
use Rattle.prim_parts.proofs.Does.{known_then}
use Rattle.prim_parts.proofs.Onward.{computes_stops}
use Rattle.prim_classes.proofs.ClassFacts.{need_then, check_same}
use Rattle.prim_classes.proofs.classes.kind_to_inherit.Goals as goal

pub returns-in_err-check-clause-does : goal.returns-in_err-check-clause-does
returns-in_err-check-clause-does g c = known_then c.in_ok-know.ensures c.in-Some.ensures (need_then fault.ArgumentKind _ (sym (ap class_part c.in-Class.is))
    (computes_stops (check_same fault.ArgumentKind c.may_have_subclasses.ensures c.in_err-check.ensures) c.from_residual-in_err-check.ensures.1))

use Rattle.std.proofs.Common.{subst, Bool}
use Rattle.object_programs.specs.Run.{give, and_then}
use Rattle.object_programs.specs.Programs.{check}
use Rattle.object_programs.specs.declared.fault.Fault.TheVariants as fault
use Rattle.running_objects.specs.Seen.{Seen}
use Rattle.prim_parts.specs.Does.{Does}
use Rattle.prim_parts.proofs.Does.{computes_then, known_then}
use Rattle.st_outside.proofs.Steps.{known_stops}
use Rattle.prim_parts.proofs.Onward.{computes_stops}
use Rattle.st_outside.proofs.methods.class_named.Goals as goal

pub returns-in_err-name : goal.returns-in_err-name
returns-in_err-name g c = computes_stops c.in_err-name.ensures c.from_residual.ensures.1

pub returns-in_err-know : goal.returns-in_err-know
returns-in_err-know g c = computes_then c.in_ok-name.ensures
    (known_stops c.in_err-know.ensures c.from_residual-in_err-know.ensures.1)

pub returns-in_err-check : goal.returns-in_err-check
returns-in_err-check g c =
    let seen : Seen = g.O.Objects.seen c.know.new.self in
    let At : Bool → Type 0 = λ is_one. Does (and_then (check fault.ArgumentKind is_one) (λ is_class. give c.in_ok-name.name))
    seen c.from_residual-in_err-check.result seen in
    computes_then c.in_ok-name.ensures (known_then c.in_ok-know.ensures c.in-Some.ensures
    (subst At c.is_class.ensures (computes_stops c.in_err-check.ensures c.from_residual-in_err-check.ensures.1)))

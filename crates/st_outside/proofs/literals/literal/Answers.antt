use Rattle.std.proofs.Common.{subst, Bool}
use Rattle.st_tree.specs.Views.{constant_of}
use Rattle.object_programs.specs.Run.{and_then}
use Rattle.object_programs.specs.Programs.{check}
use Rattle.object_programs.specs.declared.fault.Fault.TheVariants as fault
use Rattle.gem_language.specs.Literals.{constant_value, literal_value}
use Rattle.prim_parts.specs.Does.{Does}
use Rattle.prim_parts.proofs.Does.{computes_then}
use Rattle.prim_parts.proofs.Onward.{computes_stops}
use Rattle.st_outside.proofs.literals.literal.Goals as goal

pub returns-in_err-check : goal.returns-in_err-check
unfolding literal_value
returns-in_err-check g c =
    let At : Bool → Type 0 = λ short.
    Does (and_then (check fault.ObjectTooLarge short) (λ small. constant_value (constant_of c.args.literal.now)))
    (g.O.Objects.seen c.args.objects.now) c.from_residual.result (g.O.Objects.seen c.args.objects.now) in
    subst At c.has_symbols.ensures (computes_stops c.in_err-check.ensures c.from_residual.ensures.1)

pub returns : goal.returns
unfolding literal_value
returns g c =
    let At : Bool → Type 0 = λ short.
    Does (and_then (check fault.ObjectTooLarge short) (λ small. constant_value (constant_of c.args.literal.now)))
    (g.O.Objects.seen c.args.objects.now) c.constant_value.result (g.O.Objects.seen c.constant_value.new.objects) in
    subst At c.has_symbols.ensures (computes_then c.in_ok-check.ensures c.constant_value.ensures)

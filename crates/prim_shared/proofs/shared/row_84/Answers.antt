use Rattle.prim_parts.proofs.Does.{does_then, does_stop, computes_then, computes_stop}
use Rattle.prim_shared.proofs.Steps.{handed, over}
use Rattle.gem_update.specs.declared.update.Update.{Update}
use Rattle.object_programs.specs.Programs.{update}
use Rattle.object_programs.specs.Run.{and_then}
use Rattle.object_programs.specs.declared.fault.Fault.TheVariants as fault
use Rattle.prim_rules.specs.Receivers.{answer}
use Rattle.std.proofs.Common.{rules, ap, ◌∙◌, w64}
use Rattle.std.proofs.lemmas.Int.{to_z-of_z}
use Rattle.gem_update.specs.declared.update.Update.TheVariants as change
use Rattle.prim_shared.proofs.shared.row_84.Goals as goal

pub returns-in_err-name : goal.returns-in_err-name
returns-in_err-name g c = handed c.from_residual.result c.from_residual.ensures.1
    (does_stop c.in_err-name.ensures)

pub returns-in_err-by : goal.returns-in_err-by
returns-in_err-by g c = handed c.from_residual-in_err-by.result c.from_residual-in_err-by.ensures.1
    (does_then c.in_ok-name.ensures.does (computes_stop _ c.in_err-by.ensures))

pub returns : goal.returns
returns g c = does_then c.in_ok-name.ensures.does (computes_then c.in_ok-by.ensures (over (λ (one : Update). and_then (update fault.IntegerRange 0 c.in_ok-name.name c.in_ok-name.ensures.object one) (λ updated. answer c.args.receiver.now))
    (c.raise.ensures ∙ ap change.Counter (to_z-of_z w64 c.in_ok-by.by (search rules))) (c.answer_updated.ensures c.in_ok-name.ensures.object c.in_ok-name.ensures.there)))

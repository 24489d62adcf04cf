use Rattle.prim_parts.proofs.Does.{does_then, does_stop, computes_then, computes_stop}
use Rattle.prim_shared.proofs.Steps.{handed, computes_over}
use Rattle.object_programs.specs.Programs.{check}
use Rattle.object_programs.specs.declared.fault.Fault.TheVariants as fault
use Rattle.prim_shared.proofs.shared.row_90.Goals as goal

pub returns-in_err-name : goal.returns-in_err-name
returns-in_err-name g c = handed c.from_residual.result c.from_residual.ensures.1
    (does_stop c.in_err-name.ensures)

pub returns-in_err-pair : goal.returns-in_err-pair
returns-in_err-pair g c = handed c.from_residual-in_err-pair.result c.from_residual-in_err-pair.ensures.1
    (does_then c.in_ok-name.ensures.does (computes_stop _ c.in_err-pair.ensures))

pub returns-in_err-check : goal.returns-in_err-check
returns-in_err-check g c = handed c.from_residual-in_err-check.result c.from_residual-in_err-check.ensures.1
    (does_then c.in_ok-name.ensures.does (computes_then c.in_ok-pair.ensures (computes_stop _ (computes_over (check fault.ArgumentKind) c.is_key.ensures c.in_err-check.ensures))))

pub returns-in_err-check_stored : goal.returns-in_err-check_stored
returns-in_err-check_stored g c = handed c.from_residual-in_err-check_stored.result c.from_residual-in_err-check_stored.ensures.1
    (does_then c.in_ok-name.ensures.does (computes_then c.in_ok-pair.ensures (computes_then (computes_over (check fault.ArgumentKind) c.is_key.ensures c.in_ok-check.ensures) (computes_stop _ c.in_err-check_stored.ensures))))

pub returns : goal.returns
returns g c = does_then c.in_ok-name.ensures.does (computes_then c.in_ok-pair.ensures (computes_then (computes_over (check fault.ArgumentKind) c.is_key.ensures c.in_ok-check.ensures) (computes_then c.in_ok-check_stored.ensures (rw (c.in_ok-clone.ensures.cases, c.in_ok-clone-2.ensures.cases, c.entry_growth-growth.ensures c.in_ok-name.ensures.object c.in_ok-name.ensures.held c.in_ok-name.ensures.there c.in_ok-name.ensures.holds) at (c.answer_updated.ensures c.in_ok-name.ensures.object c.in_ok-name.ensures.there)))))

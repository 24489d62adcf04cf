use Rattle.prim_parts.proofs.Does.{computes_give}
use Rattle.prim_shared.proofs.Steps.{computes_over}
use Rattle.prim_parts.proofs.Onward.{computes_on, computes_off}
use Rattle.std.proofs.lemmas.Result.{err_from_is_err_and}
use Rattle.object_programs.specs.Programs.{check}
use Rattle.object_programs.specs.declared.fault.Fault.TheVariants as fault
use Rattle.prim_shared.proofs.shared.shared_key_argument.Goals as goal

pub returns-in_err-key : goal.returns-in_err-key
returns-in_err-key c =
    let p = err_from_is_err_and c.from_residual.result c.from_residual.ensures.1 in
    rw (p.1, p.2) (computes_off c.in_err-key.ensures)

pub returns-in_err-check : goal.returns-in_err-check
returns-in_err-check c =
    let p = err_from_is_err_and c.from_residual-in_err-check.result c.from_residual-in_err-check.ensures.1 in
    rw (p.1, p.2) (computes_on c.in_ok-key.ensures (computes_off (computes_over (check fault.ArgumentKind) c.is_key.ensures c.in_err-check.ensures)))

pub returns : goal.returns
returns c = computes_on c.in_ok-key.ensures (computes_on (computes_over (check fault.ArgumentKind) c.is_key.ensures c.in_ok-check.ensures) (computes_give _))

use Rattle.std.proofs.Common.{Bool}
use Rattle.object_programs.specs.Programs.{check}
use Rattle.object_programs.specs.declared.fault.Fault.TheVariants as fault
use Rattle.prim_parts.proofs.Does.{does_then, does_stop, does_give, computes_then, computes_stop}
use Rattle.prim_shared.proofs.Steps.{handed, nothing_done, computes_over}
use Rattle.prim_shared.proofs.Entered.{has_name}
use Rattle.prim_shared.proofs.new_users.add_user.Goals as goal

pub returns-in_err-clone : goal.returns-in_err-clone
returns-in_err-clone g c = λ object held there holds. handed c.from_residual.result c.from_residual.ensures.1 (nothing_done _ _)

pub returns-in_err-check : goal.returns-in_err-check
returns-in_err-check g c = λ object held there holds.
    handed c.from_residual-in_err-check.result c.from_residual-in_err-check.ensures.1 (computes_stop _
    (computes_over (λ (absent : Bool). check fault.ArgumentKind absent)
    (has_name _ c.args.name.now c.has_key.result c.has_key.ensures there c.in_ok-clone.ensures.cases) c.in_err-check.ensures))

pub returns-in_err-profile : goal.returns-in_err-profile
returns-in_err-profile g c = λ object held there holds.
    handed c.from_residual-in_err-profile.result c.from_residual-in_err-profile.ensures.1 (computes_then
    (computes_over (λ (absent : Bool). check fault.ArgumentKind absent)
    (has_name _ c.args.name.now c.has_key.result c.has_key.ensures there c.in_ok-clone.ensures.cases) c.in_ok-check.ensures)
    (does_stop (c.in_err-profile.ensures object held there holds)))

pub returns : goal.returns
returns g c = λ object held there holds. computes_then
    (computes_over (λ (absent : Bool). check fault.ArgumentKind absent)
    (has_name _ c.args.name.now c.has_key.result c.has_key.ensures there c.in_ok-clone.ensures.cases) c.in_ok-check.ensures)
    (does_then (c.in_ok-profile.ensures object held there holds) (does_give _ _))

use Rattle.std.proofs.Common.{ℕ, subst, Err}
use Rattle.gem_object.specs.declared.value.Value.TheVariants.{Ref}
use Rattle.gem_sound.specs.declared.names.TheConstants.{ALL_USERS}
use Rattle.prim_rules.specs.Parts.{pairs_in}
use Rattle.prim_rules.specs.Receivers.{write_receiver}
use Rattle.prim_parts.specs.Does.{Does}
use Rattle.prim_parts.proofs.Does.{does_then, does_stop, computes_then, computes_stop}
use Rattle.prim_parts.specs.Reached.{Reaches}
use Rattle.prim_shared.proofs.Steps.{handed}
use Rattle.prim_shared.proofs.new_users.row_79.Goals as goal

pub returns-in_err-reference_in : goal.returns-in_err-reference_in
returns-in_err-reference_in g c = handed c.from_residual.result c.from_residual.ensures.1
    (computes_stop _ c.in_err-reference_in.ensures)

pub returns-in_err-name : goal.returns-in_err-name
returns-in_err-name g c = handed c.from_residual-in_err-name.result c.from_residual-in_err-name.ensures.1
    (computes_then c.in_ok-reference_in.ensures (computes_stop _ c.in_err-name.ensures))

pub returns-in_err-users : goal.returns-in_err-users
returns-in_err-users g c =
    let At : ℕ → Type 0 = λ all. Does (write_receiver pairs_in (Ref all)) (g.O.Objects.seen c.args.objects.now)
    (Err c.in_err-users.field-0.0) (g.O.Objects.seen c.write_receiver.new.objects) in
    handed c.from_residual-in_err-users.result c.from_residual-in_err-users.ensures.1
    (computes_then c.in_ok-reference_in.ensures (computes_then c.in_ok-name.ensures
    (does_stop (subst At c.kernel_name.ensures c.in_err-users.ensures))))

pub returns : goal.returns
returns g c =
    let At : ℕ → Type 0 = λ all. Reaches pairs_in (write_receiver pairs_in (Ref all)) (g.O.Objects.seen c.args.objects.now)
    c.in_ok-users.users (g.O.Objects.seen c.write_receiver.new.objects) in
    let reached : At ALL_USERS = subst At c.kernel_name.ensures c.in_ok-users.ensures in
    computes_then c.in_ok-reference_in.ensures (computes_then c.in_ok-name.ensures
    (does_then reached.does (c.add_user.ensures reached.object reached.held reached.there reached.holds)))

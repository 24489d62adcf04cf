use Rattle.std.proofs.Common.{subst, ℕ, Ok, Err}
use Rattle.gem_object.specs.declared.value.Value.TheVariants as value
use Rattle.prim_rules.specs.Parts.{check_kind}
use Rattle.prim_parts.specs.Does.{Does}
use Rattle.prim_parts.proofs.Does.{does_then, does_exit}
use Rattle.prim_parts.proofs.strings.string_argument.Goals as goal

pub returns-in_err-check_kind : goal.returns-in_err-check_kind
returns-in_err-check_kind g c =
    let At : ℕ → Type 0 = λ class. Does (check_kind (value.Ref c.args.name) class) (g.O.Objects.seen c.args.objects.now)
    (Err c.in_err-check_kind.field-0.0) (g.O.Objects.seen c.check_kind.new.objects) in
    does_exit c.from_residual.result c.from_residual.ensures.1
    (subst At c.kernel_name.ensures c.in_err-check_kind.ensures)

pub returns : goal.returns
returns g c =
    let At : ℕ → Type 0 = λ class. Does (check_kind (value.Ref c.args.name) class) (g.O.Objects.seen c.args.objects.now)
    (Ok tt) (g.O.Objects.seen c.check_kind.new.objects) in
    does_then (subst At c.kernel_name.ensures c.in_ok-check_kind.ensures) c.string_bytes.ensures

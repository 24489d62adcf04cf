use Rattle.prim_parts.proofs.Does.{does_then, does_stop, does_give}
use Rattle.prim_shared.proofs.Steps.{handed}
use Rattle.std.proofs.Common.{subst, ℕ, Ok, Err}
use Rattle.gem_object.specs.declared.body.Body.TheVariants as body
use Rattle.prim_rules.specs.Parts.{new_object}
use Rattle.prim_parts.specs.Does.{Does}
use Rattle.prim_shared.proofs.answers.answer_array.Goals as goal

pub returns-in_err-array : goal.returns-in_err-array
returns-in_err-array g c =
    let At : ℕ → Type 0 = λ class. Does (new_object class (body.Plain c.args.values)) (g.O.Objects.seen c.args.objects.now)
    (Err c.in_err-array.field-0.0) (g.O.Objects.seen c.new_object.new.objects) in
    handed c.from_residual.result c.from_residual.ensures.1 (does_stop (subst At c.kernel_name.ensures c.in_err-array.ensures))

pub returns : goal.returns
returns g c =
    let At : ℕ → Type 0 = λ class. Does (new_object class (body.Plain c.args.values)) (g.O.Objects.seen c.args.objects.now)
    (Ok c.in_ok-array.array) (g.O.Objects.seen c.new_object.new.objects) in
    does_then (subst At c.kernel_name.ensures c.in_ok-array.ensures) (does_give _ _)

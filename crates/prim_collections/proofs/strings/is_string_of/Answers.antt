use Rattle.std.proofs.lemmas.Result.{err_from_is_err_and}
use Rattle.gem_object.specs.declared.value.Value.TheVariants as value
use Rattle.prim_parts.proofs.Does.{does_then, does_stop, does_give}
use Rattle.prim_collections.proofs.TextsRead.{told_again}
use Rattle.prim_collections.proofs.strings.is_string_of.Goals as goal

pub returns-in_err-is_one : goal.returns-in_err-is_one
returns-in_err-is_one g c = λ text is.
    let p = err_from_is_err_and c.from_residual.result c.from_residual.ensures.1 in
    rw (p.1, p.2) (does_stop c.in_err-is_one.ensures.does)

pub returns-then-is_one : goal.returns-then-is_one
returns-then-is_one g c = λ text is.
    does_then (rw c.if-is_one.true at c.in_ok-is_one.ensures.does)
    (c.has_bytes.ensures text (told_again (value.Ref c.args.name) (g.O.Objects.seen c.args.objects.now)
    (g.O.Objects.seen c.is_string.new.objects) text c.in_ok-is_one.ensures.same is))

pub returns : goal.returns
returns g c = λ text is. does_then (rw c.if-is_one.false at c.in_ok-is_one.ensures.does) (does_give _ _)

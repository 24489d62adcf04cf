use Rattle.std.proofs.lemmas.Result.{err_from_is_err_and}
use Rattle.prim_parts.proofs.Does.{does_then, does_stop, does_compute}
use Rattle.prim_collections.proofs.TextsRead.{argument_read, argument_other, argument_plain}
use Rattle.prim_collections.proofs.seen_texts.read_argument.Goals as goal

pub returns : goal.returns
returns g c =
    argument_read c.args.argument.now c.in-Some.name (g.O.Objects.seen c.args.objects.now)
    (g.O.Objects.seen c.is_string.new.objects) (g.O.Objects.seen c.read.new.self) c.read.result c.in-Some.ensures
    (does_then c.in_ok-is_one.ensures.does (does_compute _ c.in_ok-check.ensures)) c.in_ok-is_one.ensures.same
    c.read.ensures

pub returns-in_err-is_one : goal.returns-in_err-is_one
returns-in_err-is_one g c =
    let p = err_from_is_err_and c.from_residual.result c.from_residual.ensures.1 in
    rw (p.1, p.2) (argument_other c.args.argument.now c.in-Some.name (g.O.Objects.seen c.args.objects.now)
    (g.O.Objects.seen c.is_string.new.objects) _ c.in-Some.ensures (does_stop c.in_err-is_one.ensures.does))

pub returns-in_err-check : goal.returns-in_err-check
returns-in_err-check g c =
    let p = err_from_is_err_and c.from_residual-in_err-check.result c.from_residual-in_err-check.ensures.1 in
    rw (p.1, p.2) (argument_other c.args.argument.now c.in-Some.name (g.O.Objects.seen c.args.objects.now)
    (g.O.Objects.seen c.is_string.new.objects) _ c.in-Some.ensures
    (does_then c.in_ok-is_one.ensures.does (does_compute _ c.in_err-check.ensures)))

pub returns-in_default : goal.returns-in_default
returns-in_default g c = argument_plain c.args.argument.now (g.O.Objects.seen c.args.objects.now) c.in_default.ensures

use Rattle.std.proofs.Common.{Ok}
use Rattle.std.proofs.lemmas.Result.{err_from_is_err_and}
use Rattle.gem_object.specs.declared.value.Value.TheVariants as value
use Rattle.prim_rules.specs.Texts.{string_bytes}
use Rattle.prim_parts.proofs.Does.{does_then, does_stop, does_atom}
use Rattle.prim_collections.proofs.TextsRead.{object_read, text_told, equals_other, equals_string}
use Rattle.prim_collections.proofs.strings.is_equal_string.Goals as goal

pub returns-in_err-read : goal.returns-in_err-read
returns-in_err-read g c =
    let p = err_from_is_err_and c.from_residual.result c.from_residual.ensures.1 in
    rw (p.1, p.2) (does_stop (does_stop (does_atom c.in_err-read.ensures)))

pub returns-in_err-string_at : goal.returns-in_err-string_at
returns-in_err-string_at g c =
    let p = err_from_is_err_and c.from_residual-in_err-string_at.result c.from_residual-in_err-string_at.ensures.1 in
    rw (p.1, p.2) (does_stop (text_told (string_bytes c.args.name) (value.Ref c.args.name)
    (g.O.Objects.seen c.args.objects.now) (g.O.Objects.seen c.read.new.self) _
    (object_read c.args.name (g.O.Objects.seen c.args.objects.now) (g.O.Objects.seen c.read.new.self) (Ok tt)
    c.in_ok-read.ensures) c.in_err-string_at.ensures))

pub returns-in_default : goal.returns-in_default
returns-in_default g c =
    does_then (text_told (string_bytes c.args.name) (value.Ref c.args.name)
    (g.O.Objects.seen c.args.objects.now) (g.O.Objects.seen c.read.new.self) _
    (object_read c.args.name (g.O.Objects.seen c.args.objects.now) (g.O.Objects.seen c.read.new.self) (Ok tt)
    c.in_ok-read.ensures) c.in_ok-string_at.ensures)
    (equals_other _ c.args.argument.now (g.O.Objects.seen c.read.new.self) c.in_default.ensures)

pub returns : goal.returns
returns g c =
    does_then (text_told (string_bytes c.args.name) (value.Ref c.args.name)
    (g.O.Objects.seen c.args.objects.now) (g.O.Objects.seen c.read.new.self) _
    (object_read c.args.name (g.O.Objects.seen c.args.objects.now) (g.O.Objects.seen c.read.new.self) (Ok tt)
    c.in_ok-read.ensures) c.in_ok-string_at.ensures)
    (equals_string _ c.args.argument.now c.in-Some.other c.in-Some.ensures
    (c.is_string_of.ensures _ c.in_ok-string_at.ensures))

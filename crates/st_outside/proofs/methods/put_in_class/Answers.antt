use Rattle.std.proofs.Common.{◌≡◌, ◌∙◌, sym, length, None, option_and_then, arith}
use Rattle.object_programs.specs.Budget.{bytes_cost}
use Rattle.gem_object.specs.declared.body.MethodCode.TheVariants.{Source}
use Rattle.gem_object.specs.declared.body.Method.{Method}
use Rattle.gem_sound.specs.Parts.{class_of}
use Rattle.running_objects.specs.Seen.{Seen, object_at}
use Rattle.prim_parts.proofs.Does.{computes_then}
use Rattle.st_outside.proofs.Steps.{does_no_memory}
use Rattle.prim_parts.proofs.Onward.{computes_stops}
use Rattle.st_outside.proofs.Placing.{put_none, put_some, seen_fits, checked, put_so, put_too_long, short_source}
use Rattle.st_outside.proofs.methods.put_in_class.Goals as goal

pub returns-in_default : goal.returns-in_default
returns-in_default g c = λ object there.
    let seen : Seen = g.O.Objects.seen c.args.objects.now in
    let none : option_and_then (λ object. class_of object.body) (object_at c.args.name seen) ≡ None =
    grind (arith, c.class_at.ensures, c.in_default.is, c.in_default.not-Some) in
    put_none c.args.class_side (record { selector = c.args.selector.now; code = Source c.args.source.now })
    c.args.source.now c.args.name object seen there none

pub returns-in_err-check : goal.returns-in_err-check
returns-in_err-check g c = λ object there.
    let new : Method = record { selector = c.args.selector.now; code = Source c.args.source.now } in
    put_some c.args.class_side new c.args.source.now c.args.name object c.in-Some.class.now there (sym c.in-Some.ensures)
    (checked new c.is_symbol.result c.is_symbol.ensures (computes_stops c.in_err-check.ensures c.from_residual.ensures.1))

pub returns-then-not-is_storable : goal.returns-then-not-is_storable
returns-then-not-is_storable g c = λ object there.
    let new : Method = record { selector = c.args.selector.now; code = Source c.args.source.now } in
    put_some c.args.class_side new c.args.source.now c.args.name object c.in-Some.class.now there (sym c.in-Some.ensures)
    (checked new c.is_symbol.result c.is_symbol.ensures (computes_then c.in_ok-check.ensures
    (put_too_long c.args.class_side c.args.selector.now c.args.source.now c.in-Some.class.now
    (bytes_cost (length c.args.source.now)) c.args.name object c.is_storable.result c.is_storable.ensures
    c.if-not-is_storable.true (g.O.Objects.seen c.args.objects.now))))

pub returns-in_err-body : goal.returns-in_err-body
returns-in_err-body g c = λ object there.
    let new : Method = record { selector = c.args.selector.now; code = Source c.args.source.now } in
    put_some c.args.class_side new c.args.source.now c.args.name object c.in-Some.class.now there (sym c.in-Some.ensures)
    (checked new c.is_symbol.result c.is_symbol.ensures (computes_then c.in_ok-check.ensures
    (does_no_memory c.from_residual-in_err-body.ensures.1)))

pub replace_body-requires : goal.replace_body-requires
replace_body-requires g c = seen_fits (g.O.Objects.seen c.args.objects.now) c.sound.ensures c.args.name c.args.class_side
    c.args.selector.now c.args.source.now c.in-Some.class.now c.in_ok-body.body
    (short_source c.args.selector.now c.args.source.now c.requires
    (sym c.is_storable.ensures ∙ c.if-not-is_storable.false)) (sym c.in-Some.ensures)
    c.in_ok-body.ensures

pub returns : goal.returns
returns g c = λ object there.
    let new : Method = record { selector = c.args.selector.now; code = Source c.args.source.now } in
    put_some c.args.class_side new c.args.source.now c.args.name object c.in-Some.class.now there (sym c.in-Some.ensures)
    (checked new c.is_symbol.result c.is_symbol.ensures (computes_then c.in_ok-check.ensures
    (put_so c.args.name object c.in_ok-body.ensures c.source_cost.ensures (c.replace_body.ensures object there))))

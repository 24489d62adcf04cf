use Rattle.std.proofs.Common.{◌≡◌, ◌∙◌, sym, ap, Some}
use Rattle.gem_object.specs.declared.value.Value.{Value}
use Rattle.running_objects.specs.gem_image.Image.{contents_of}
use Rattle.running_objects.specs.Seen.{Seen}
use Rattle.gem_language.specs.OutOfScope.{read_out_of_scope}
use Rattle.look_up_cache.specs.Variables.{bare_frame}
use Rattle.look_up_cache.specs.Memory.{with_budget}
use Rattle.look_up_cache.specs.Elements.{AlwaysGives}
use Rattle.look_up_cache.proofs.Sequences.{in_some}
use Rattle.look_up_cache.proofs.Slots.{variable_given}
use Rattle.look_up_cache.proofs.variables.known_variable.Goals as goal

pub returns : goal.returns
returns g c = λ holds.
    let seen : Seen = g.O.Objects.seen c.args.objects.now in
    in_some (λ (copy : Value). copy ≡ c.in_ok-value.value.now)
    (λ (value : Value). AlwaysGives (read_out_of_scope c.args.name.now
    (bare_frame c.args.receiver.now c.args.holder c.args.class_side)) value seen)
    (λ copy is. variable_given c.args.name.now c.args.receiver.now c.args.holder c.args.class_side c.in_ok-at.at seen
    (c.in_ok-at.ensures seen holds) c.in_ok-oid.oid (contents_of c.in_ok-object.object.now) (sym c.in_ok-oid.ensures)
    c.in_ok-object.ensures copy (λ budget. c.is_calm.ensures (with_budget budget seen) holds.receivers c.if-not-is_calm.false)
    (sym c.in_ok-value.ensures ∙ ap (λ (v : Value). Some v) (sym is))) c.copy_of.result c.copy_of.ensures

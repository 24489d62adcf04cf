use Rattle.std.proofs.Common.{sym}
use Rattle.gem_object.specs.declared.value.Value.{Value}
use Rattle.running_objects.specs.gem_image.Image.{Contents, contents_of}
use Rattle.running_objects.specs.Seen.{Seen}
use Rattle.gem_language.specs.prim_rules.Rules.{rule_of}
use Rattle.gem_language.specs.prim_rules.declared.answer.PrimitiveAnswer.TheVariants.{Gives}
use Rattle.look_up_cache.specs.Memory.{with_budget}
use Rattle.look_up_cache.specs.Elements.{AlwaysGives, SizeIs, ElementIs}
use Rattle.look_up_cache.proofs.Sequences.{in_some, size_given, element_given}
use Rattle.look_up_cache.proofs.elements.known_answer.Goals as goal

pub returns-in-33 : goal.returns-in-33
returns-in-33 g c =
    let seen : Seen = g.O.Objects.seen c.args.objects.now in
    let object : Contents = contents_of c.in_ok-object.object.now in
    in_some (λ (value : Value). SizeIs object c.args.arguments.now value seen)
    (λ (value : Value). AlwaysGives (rule_of c.args.number c.args.receiver.now c.args.arguments.now) (Gives value) seen)
    (λ value is. size_given c.in_ok-name.name c.args.receiver.now c.args.arguments.now object value seen
    (sym c.in_ok-name.ensures) (λ budget. c.is_calm.ensures (with_budget budget seen) c.requires.receivers c.if-not-is_calm.false)
    c.in_ok-object.ensures c.args.number c.in-33.is is) c.size_for.result c.size_for.ensures

pub returns-in-34 : goal.returns-in-34
returns-in-34 g c =
    let seen : Seen = g.O.Objects.seen c.args.objects.now in
    let object : Contents = contents_of c.in_ok-object.object.now in
    in_some (λ (value : Value). ElementIs object c.args.arguments.now value seen)
    (λ (value : Value). AlwaysGives (rule_of c.args.number c.args.receiver.now c.args.arguments.now) (Gives value) seen)
    (λ value is. element_given c.in_ok-name.name c.args.receiver.now c.args.arguments.now object value seen
    (sym c.in_ok-name.ensures) (λ budget. c.is_calm.ensures (with_budget budget seen) c.requires.receivers c.if-not-is_calm.false)
    c.in_ok-object.ensures c.args.number c.in-34.is is) c.element_for.result c.element_for.ensures

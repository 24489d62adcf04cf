use Rattle.std.proofs.Common.{sym, refl, [], ◌∷◌, codes}
use Rattle.gem_object.specs.declared.value.Value.{Value}
use Rattle.running_objects.specs.gem_image.Image.{Contents, contents_of}
use Rattle.running_objects.specs.Seen.{Seen}
use Rattle.gem_language.specs.prim_rules.Rules.{rule_of}
use Rattle.gem_language.specs.prim_rules.declared.answer.PrimitiveAnswer.TheVariants.{Gives}
use Rattle.look_up_cache.specs.Answering.{AnswersBy}
use Rattle.look_up_cache.specs.Memory.{with_budget}
use Rattle.look_up_cache.specs.Elements.{AlwaysGives, ElementIs}
use Rattle.look_up_cache.proofs.Remembering.{reads_answer, met_reached}
use Rattle.look_up_cache.proofs.Sequences.{in_some, element_given}
use Rattle.look_up_cache.proofs.elements.known_element.Goals as goal

pub returns-clause-answers : goal.returns-clause-answers
returns-clause-answers g c =
    let seen : Seen = g.O.Objects.seen c.args.objects.now in
    let object : Contents = contents_of c.in_ok-object.object.now in
    in_some (λ (value : Value). ElementIs object (c.args.index.now ∷ []) value seen)
    (λ (value : Value). AnswersBy 34 c.args.receiver.now (codes "at:") seen)
    (λ value is. reads_answer c.args.receiver.now c.in_ok-name.name c.in_ok-known.known.now seen (sym c.in_ok-name.ensures)
    c.in_ok-known.ensures.name (c.in_ok-known.ensures.met seen c.requires.receivers) c.if-not-known.false)
    c.element_at.result c.element_at.ensures

pub returns-clause-value : goal.returns-clause-value
returns-clause-value g c =
    let seen : Seen = g.O.Objects.seen c.args.objects.now in
    let object : Contents = contents_of c.in_ok-object.object.now in
    in_some (λ (value : Value). ElementIs object (c.args.index.now ∷ []) value seen)
    (λ (value : Value). AlwaysGives (rule_of 34 c.args.receiver.now (c.args.index.now ∷ [])) (Gives value) seen)
    (λ value is. element_given c.in_ok-name.name c.args.receiver.now (c.args.index.now ∷ []) object value seen
    (sym c.in_ok-name.ensures) (λ budget. met_reached c.args.receiver.now c.in_ok-name.name c.in_ok-known.known.now
    (with_budget budget seen) (sym c.in_ok-name.ensures) c.in_ok-known.ensures.name
    (c.in_ok-known.ensures.met seen c.requires.receivers)) c.in_ok-object.ensures 34 refl is)
    c.element_at.result c.element_at.ensures

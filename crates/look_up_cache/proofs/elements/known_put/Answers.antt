use Rattle.std.proofs.Common.{◌≡◌, sym, refl, [], ◌∷◌, codes}
use Rattle.running_objects.specs.Seen.{Seen}
use Rattle.gem_language.specs.prim_rules.Rules.{rule_of}
use Rattle.prim_parts.specs.Does.{IsThere}
use Rattle.look_up_cache.specs.Answering.{AnswersBy}
use Rattle.look_up_cache.specs.Elements.{HasWritten, IsPutOf, PutIsLeft}
use Rattle.look_up_cache.specs.declared.elements.Put.{Put}
use Rattle.look_up_cache.proofs.Remembering.{puts_answer, met_written}
use Rattle.look_up_cache.proofs.Sequences.{in_some, put_left, put_there}
use Rattle.look_up_cache.proofs.elements.known_put.Goals as goal

pub returns-clause-answers : goal.returns-clause-answers
returns-clause-answers g c =
    let seen : Seen = g.O.Objects.seen c.args.objects.now in
    in_some (IsPutOf c.in_ok-slot.slot c.args.value.now)
    (λ (put : Put). AnswersBy 35 c.args.receiver.now (codes "at:put:") seen)
    (λ put is. puts_answer c.args.receiver.now c.in_ok-name.name c.in_ok-known.known.now seen (sym c.in_ok-name.ensures)
    c.in_ok-known.ensures.name (c.in_ok-known.ensures.met seen c.requires.receivers) c.if-not-known.false)
    c.put_of.result c.put_of.ensures

pub returns-clause-left : goal.returns-clause-left
returns-clause-left g c =
    let seen : Seen = g.O.Objects.seen c.args.objects.now in
    let has : HasWritten c.args.receiver.now c.args.index.now c.in_ok-slot.slot seen =
    met_written c.args.receiver.now c.in_ok-name.name c.in_ok-known.known.now seen (sym c.in_ok-name.ensures)
    c.in_ok-known.ensures.name (c.in_ok-known.ensures.met seen c.requires.receivers) c.args.index.now c.in_ok-slot.slot
    c.if-not-known-2.false c.in_ok-slot.ensures in
    in_some (IsPutOf c.in_ok-slot.slot c.args.value.now)
    (λ (put : Put). PutIsLeft (rule_of 35 c.args.receiver.now (c.args.index.now ∷ c.args.value.now ∷ [])) put seen)
    (λ put is. put_left 35 c.args.receiver.now (c.args.index.now ∷ c.args.value.now ∷ [])
    (c.args.index.now, c.args.value.now) c.in_ok-slot.slot seen put refl refl has is) c.put_of.result c.put_of.ensures

pub returns-clause-there : goal.returns-clause-there
returns-clause-there g c =
    let seen : Seen = g.O.Objects.seen c.args.objects.now in
    let has : HasWritten c.args.receiver.now c.args.index.now c.in_ok-slot.slot seen =
    met_written c.args.receiver.now c.in_ok-name.name c.in_ok-known.known.now seen (sym c.in_ok-name.ensures)
    c.in_ok-known.ensures.name (c.in_ok-known.ensures.met seen c.requires.receivers) c.args.index.now c.in_ok-slot.slot
    c.if-not-known-2.false c.in_ok-slot.ensures in
    in_some (IsPutOf c.in_ok-slot.slot c.args.value.now) (λ (put : Put). IsThere put.slot.name seen)
    (λ put is. put_there c.args.receiver.now c.args.index.now c.args.value.now c.in_ok-slot.slot seen put has is)
    c.put_of.result c.put_of.ensures

pub returns-clause-value : goal.returns-clause-value
returns-clause-value g c =
    in_some (IsPutOf c.in_ok-slot.slot c.args.value.now) (λ (put : Put). put.value ≡ c.args.value.now)
    (λ put is. is.value_is) c.put_of.result c.put_of.ensures

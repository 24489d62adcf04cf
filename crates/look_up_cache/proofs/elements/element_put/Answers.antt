use Rattle.running_objects.specs.Seen.{Seen}
use Rattle.gem_language.specs.prim_rules.Rules.{rule_of}
use Rattle.prim_parts.specs.Does.{IsThere}
use Rattle.look_up_cache.specs.Elements.{IsPutOf, PutIsLeft}
use Rattle.look_up_cache.specs.declared.elements.Put.{Put}
use Rattle.look_up_cache.proofs.Sequences.{in_some, put_left, put_there}
use Rattle.look_up_cache.proofs.elements.element_put.Goals as goal

pub returns-clause-left : goal.returns-clause-left
returns-clause-left g c =
    let seen : Seen = g.O.Objects.seen c.args.objects.now in
    in_some (IsPutOf c.in_ok-slot.slot c.in_ok-both.both.1.now)
    (λ (put : Put). PutIsLeft (rule_of c.args.number c.args.receiver.now c.args.arguments.now) put seen)
    (λ put is. put_left c.args.number c.args.receiver.now c.args.arguments.now
    (c.in_ok-both.both.0.now, c.in_ok-both.both.1.now) c.in_ok-slot.slot seen put c.if-number-ne35.false c.in_ok-both.ensures
    c.in_ok-slot.ensures is) c.put_of.result c.put_of.ensures

pub returns-clause-there : goal.returns-clause-there
returns-clause-there g c =
    let seen : Seen = g.O.Objects.seen c.args.objects.now in
    in_some (IsPutOf c.in_ok-slot.slot c.in_ok-both.both.1.now) (λ (put : Put). IsThere put.slot.name seen)
    (λ put is. put_there c.args.receiver.now c.in_ok-both.both.0.now c.in_ok-both.both.1.now c.in_ok-slot.slot seen put
    c.in_ok-slot.ensures is) c.put_of.result c.put_of.ensures

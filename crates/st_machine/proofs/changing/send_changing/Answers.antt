use Rattle.std.proofs.Common.{refl, ap, subst, suc, Result, Ok, Err}
use Rattle.gem_object.specs.declared.value.Value.{Value}
use Rattle.running_objects.specs.Seen.{Seen}
use Rattle.prim_parts.specs.Does.{Does}
use Rattle.look_up_cache.specs.Table.{held_at}
use Rattle.st_machine.specs.AtOnce.{with_unit, giving}
use Rattle.st_machine.specs.Parts.{table_of}
use Rattle.st_machine.specs.declared.flow.Turn.TheVariants as turn
use Rattle.st_machine.specs.declared.lack.Lack.{Lack}
use Rattle.st_machine.proofs.Changes.{changing_led}
use Rattle.st_machine.proofs.Turning.{changed_lacking, lacking_known}
use Rattle.st_machine.proofs.changing.send_changing.Goals as goal

pub returns-in-Some-Ok-clause-led : goal.returns-in-Some-Ok-clause-led
returns-in-Some-Ok-clause-led g c =
    let founds = g.O.FindsMethods.founds c.args.objects.now in
    let seen = g.O.Objects.seen c.args.objects.now in
    let Here : Seen → Result Value Lack → Type 0 = λ now ended. Does (with_unit c.in-Some.number c.at_depth.result.now
    c.upper.result.now) now (giving ended) (g.O.Objects.seen c.do_known.new.self) in
    changing_led c.args.depth (table_of c.args.code.now) c.args.selector.now c.args.count c.args.place c.args.stack.now.own
    c.put_over.new.stack.own c.args.chain.now.own c.args.frame.now seen (g.O.Objects.seen c.do_known.new.self)
    c.args.locals.now c.requires.height (held_at founds c.args.at) c.in-Some.number c.in-Some.ensures c.requires.place
    c.at_depth.result.now c.at_depth.ensures c.upper.result.now c.upper.ensures (Ok c.in-Some-Ok.answer)
    (subst (λ (now : Seen). Here now (Ok c.in-Some-Ok.answer)) (ap g.O.Objects.seen c.keep_element.ensures)
    (subst (Here (g.O.Objects.seen c.keep_element.new.objects)) c.in-Some-Ok.field-0-is c.in-Some-Ok.ensures.done))
    (Ok (turn.Goes (suc c.args.place))) (refl, c.put_over.ensures.own)

pub returns-in-Some-Err-clause-led : goal.returns-in-Some-Err-clause-led
returns-in-Some-Err-clause-led g c =
    let founds = g.O.FindsMethods.founds c.args.objects.now in
    let seen = g.O.Objects.seen c.args.objects.now in
    let Here : Seen → Result Value Lack → Type 0 = λ now ended. Does (with_unit c.in-Some.number c.at_depth.result.now
    c.upper.result.now) now (giving ended) (g.O.Objects.seen c.do_known.new.self) in
    changed_lacking c.in-Some-Err.lack c.args.place c.lacking.result (c.lacking.ensures c.args.place)
    (λ result turned. changing_led c.args.depth (table_of c.args.code.now) c.args.selector.now c.args.count c.args.place
    c.args.stack.now.own c.args.stack.now.own c.args.chain.now.own c.args.frame.now seen
    (g.O.Objects.seen c.do_known.new.self) c.args.locals.now c.requires.height (held_at founds c.args.at) c.in-Some.number
    c.in-Some.ensures c.requires.place c.at_depth.result.now c.at_depth.ensures c.upper.result.now c.upper.ensures
    (Err c.in-Some-Err.lack)
    (subst (λ (now : Seen). Here now (Err c.in-Some-Err.lack)) (ap g.O.Objects.seen c.keep_element.ensures)
    (subst (Here (g.O.Objects.seen c.keep_element.new.objects)) c.in-Some-Err.field-0-is c.in-Some-Err.ensures.done))
    result turned)

pub returns-in-Some-Err-clause-unchanged : goal.returns-in-Some-Err-clause-unchanged
returns-in-Some-Err-clause-unchanged g c = λ is.
    absurd (lacking_known c.in-Some-Err.lack c.args.place c.lacking.result (c.lacking.ensures c.args.place) is)

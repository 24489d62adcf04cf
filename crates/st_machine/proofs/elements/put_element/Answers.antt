use Rattle.std.proofs.Common.{refl, suc, Ok, Err}
use Rattle.st_machine.specs.Parts.{table_of}
use Rattle.st_machine.specs.declared.flow.Turn.TheVariants as turn
use Rattle.st_machine.proofs.KnownElements.{element_put_led, top_kept}
use Rattle.st_machine.proofs.Turning.{changed_lacking, lacking_known}
use Rattle.st_machine.proofs.elements.put_element.Goals as goal

pub returns-in-Some-Ok-clause-led : goal.returns-in-Some-Ok-clause-led
returns-in-Some-Ok-clause-led g c =
    element_put_led c.args.depth (table_of c.args.code.now) c.args.selector.now c.requires.selector c.args.place
    c.args.stack.now.own c.keep_top.new.stack.own c.args.chain.now.own c.args.frame.now
    (g.O.Objects.seen c.args.objects.now) (g.O.Objects.seen c.put_copy.new.objects) c.args.locals.now c.requires.height
    c.at_depth.result.now c.at_depth-2.result.now c.at_depth-3.result.now c.at_depth.ensures c.at_depth-2.ensures
    c.at_depth-3.ensures c.in-Some-Ok.ensures.answers (Ok c.at_depth-3.result.now)
    (rw c.in-Some-Ok.field-0-is at c.in-Some-Ok.ensures.done)
    (Ok (turn.Goes (suc c.args.place))) (
      refl,
      top_kept c.args.stack.now.own c.keep_top.new.stack.own
          c.at_depth-3.result.now c.keep_top.ensures.own c.at_depth-3.ensures,
    )

pub returns-in-Some-Err-clause-led : goal.returns-in-Some-Err-clause-led
returns-in-Some-Err-clause-led g c =
    changed_lacking c.in-Some-Err.lack c.args.place c.lacking.result (c.lacking.ensures c.args.place)
    (λ result turned. element_put_led c.args.depth (table_of c.args.code.now) c.args.selector.now c.requires.selector
    c.args.place c.args.stack.now.own c.args.stack.now.own c.args.chain.now.own c.args.frame.now
    (g.O.Objects.seen c.args.objects.now) (g.O.Objects.seen c.put_copy.new.objects) c.args.locals.now c.requires.height
    c.at_depth.result.now c.at_depth-2.result.now c.at_depth-3.result.now c.at_depth.ensures c.at_depth-2.ensures
    c.at_depth-3.ensures c.in-Some-Err.ensures.answers (Err c.in-Some-Err.lack)
    (rw c.in-Some-Err.field-0-is at c.in-Some-Err.ensures.done) result turned)

pub returns-in-Some-Err-clause-unchanged : goal.returns-in-Some-Err-clause-unchanged
returns-in-Some-Err-clause-unchanged g c = λ is.
    absurd (lacking_known c.in-Some-Err.lack c.args.place c.lacking.result (c.lacking.ensures c.args.place) is)

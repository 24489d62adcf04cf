use Rattle.std.proofs.Common.{◌≡◌, subst, arith}
use Rattle.look_up_cache.specs.ElementMessages.{element_selector}
use Rattle.look_up_cache.specs.declared.element_message.ElementMessage.{ElementMessage}
use Rattle.st_machine.specs.Parts.{framed}
use Rattle.st_machine.proofs.KnownElements.{element_answered}
use Rattle.st_machine.proofs.elements.answer_element.Goals as goal

pub returns-in-Some-At-clause-answered : goal.returns-in-Some-At-clause-answered
returns-in-Some-At-clause-answered g c = λ is budget.
    element_answered c.args.depth (omega (arith, c.if-depth-eq0.false)) c.args.selector.now
    (framed c.args.chain.now.own c.args.frame.now) c.args.stack.now.own
    (subst (λ (message : ElementMessage). element_selector message ≡ c.args.selector.now) c.in-Some-At.field-0-is
    c.in-Some-At.ensures)
    (g.O.Objects.seen c.args.objects.now) (c.put_element_over.ensures.answers is) budget c.args.locals.now
    c.put_element_over.new.stack.own (c.put_element_over.ensures.put is) c.args.count
    (omega (arith, c.if-count-ne1.false))

use Rattle.std.proofs.Common.{subst, arith, ℕ, suc, take, drop, get_or, reverse}
use Rattle.gem_object.specs.declared.value.Value.TheVariants.{Nil}
use Rattle.st_machine.specs.Parts.{framed}
use Rattle.st_machine.specs.Ready.{ReadyPut}
use Rattle.st_machine.proofs.ReadyAnswers.{operator_answered}
use Rattle.st_machine.proofs.known.answer_integers.Goals as goal

pub returns-clause-answered : goal.returns-clause-answered
returns-clause-answered g c = λ is budget.
    let own = c.args.stack.now.own in
    let AtNumber : ℕ → Type 0 = λ number. ReadyPut number (get_or own c.args.count Nil) (reverse (take c.args.count own))
    (g.O.Objects.seen c.args.objects.now) (drop (suc c.args.count) own) c.put_computed.new.stack.own in
    operator_answered c.args.depth (omega (arith, c.if-depth-eq0.false)) c.args.selector.now
    (framed c.args.chain.now.own c.args.frame.now) own c.args.count c.in-Some.operator c.in-Some.ensures.selector
    c.in-Some.ensures.receiver.0 c.in-Some.ensures.receiver.1 (g.O.Objects.seen c.args.objects.now)
    (c.answers_integers.ensures c.if-not-answers_integers.false) budget c.args.locals.now c.put_computed.new.stack.own
    (subst AtNumber c.number.ensures (c.put_computed.ensures.put is))

use Rattle.std.proofs.lemmas.Result.{err_from_is_err_and}
use Rattle.gem_language.specs.OutOfScope.{write_out_of_scope}
use Rattle.gem_language.specs.Sends.{outside}
use Rattle.st_machine.specs.Parts.{framed}
use Rattle.st_machine.proofs.Sent.{replaced_led, replaced_stops}
use Rattle.st_machine.proofs.names.store_name.Goals as goal

pub returns-in_err-answer-clause-led : goal.returns-in_err-answer-clause-led
unfolding outside
returns-in_err-answer-clause-led g c =
    let frame = framed c.args.chain.now.own c.args.frame.now in
    let p = err_from_is_err_and c.from_residual.result c.from_residual.ensures.1 in
    rw (p.1, p.2) (replaced_stops (λ value. write_out_of_scope c.args.name.now frame value) c.args.place c.args.stack.now.own
    c.in-Some.value c.pop.new.self.own c.pop.new.self.own frame c.in_err-answer.field-0.0 c.in-Some.ensures.popped
    c.in_err-answer.ensures)

pub returns-clause-led : goal.returns-clause-led
unfolding outside
returns-clause-led g c =
    let frame = framed c.args.chain.now.own c.args.frame.now in
    replaced_led (λ value. write_out_of_scope c.args.name.now frame value) c.args.place c.in_ok-next_of.field-0 c.args.stack.now.own
    c.in-Some.value c.pop.new.self.own c.push.new.self.own frame c.in_ok-answer.answer c.in-Some.ensures.popped
    c.in_ok-next_of.ensures.place c.in_ok-push.ensures.pushed c.in_ok-answer.ensures

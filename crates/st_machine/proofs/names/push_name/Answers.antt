use Rattle.std.proofs.Common.{suc, ◌∷◌}
use Rattle.std.proofs.lemmas.Result.{err_from_is_err_and}
use Rattle.gem_language.specs.OutOfScope.{read_out_of_scope}
use Rattle.gem_language.specs.Sends.{outside}
use Rattle.st_machine.specs.Parts.{framed}
use Rattle.st_machine.proofs.Sent.{pushed_led, stopped}
use Rattle.st_machine.proofs.names.push_name.Goals as goal

pub returns-in_err-value-clause-led : goal.returns-in_err-value-clause-led
unfolding outside
returns-in_err-value-clause-led g c =
    let frame = framed c.args.chain.now.own c.args.frame.now in
    let p = err_from_is_err_and c.from_residual.result c.from_residual.ensures.1 in
    rw (p.1, p.2) (stopped (read_out_of_scope c.args.name.now frame) c.in_err-value.field-0.0
    (λ next back value state. next (suc c.args.place) (value ∷ c.args.stack.now.own) frame state)
    c.args.stack.now.own frame c.in_err-value.ensures)

pub returns-clause-led : goal.returns-clause-led
unfolding outside
returns-clause-led g c =
    let frame = framed c.args.chain.now.own c.args.frame.now in
    pushed_led (read_out_of_scope c.args.name.now frame) c.args.place c.in_ok-next_of.field-0 c.args.stack.now.own
    c.push.new.self.own frame c.in_ok-value.value c.in_ok-next_of.ensures.place c.in_ok-push.ensures.pushed
    c.in_ok-value.ensures

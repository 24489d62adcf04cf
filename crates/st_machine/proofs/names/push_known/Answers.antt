use Rattle.std.proofs.Common.{refl}
use Rattle.gem_language.specs.OutOfScope.{read_out_of_scope}
use Rattle.gem_language.specs.Sends.{outside}
use Rattle.st_machine.specs.Parts.{framed}
use Rattle.st_machine.proofs.Sent.{pushed_led}
use Rattle.st_machine.proofs.names.push_known.Goals as goal

pub returns-in-Ok-clause-led : goal.returns-in-Ok-clause-led
unfolding outside
returns-in-Ok-clause-led g c =
    let frame = framed c.args.chain.now.own c.args.frame.now in
    let answered = c.in-Stands.ensures.stands refl in
    pushed_led (read_out_of_scope c.args.name.now frame) c.args.place c.in-Ok.there c.args.stack.now.own
    c.put_known.new.stack.own frame answered.answer c.in-Ok.ensures.place answered.stands answered.ran

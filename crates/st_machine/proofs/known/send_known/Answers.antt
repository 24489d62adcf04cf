use Rattle.std.proofs.Common.{◌<◌, length, arith, refl}
use Rattle.st_machine.specs.Parts.{table_of}
use Rattle.st_machine.proofs.KnownAnswers.{known_led}
use Rattle.st_machine.proofs.known.send_known.Goals as goal

pub returns-then-answer_at_once-clause-led : goal.returns-then-answer_at_once-clause-led
returns-then-answer_at_once-clause-led g c =
    let within : c.args.count < length c.args.stack.now.own = omega (arith, c.if-height-count.false, c.height.ensures) in
    known_led c.args.depth (table_of c.args.code.now) c.args.selector.now c.args.count c.args.place c.args.stack.now.own
    c.answer_at_once.new.stack.own c.args.chain.now.own c.args.frame.now (g.O.Objects.seen c.args.objects.now)
    (g.O.Objects.seen c.spend_unit.new.objects) c.args.locals.now within
    (c.if-answer_at_once.ensures.answered refl) c.spend_unit.result c.spend_unit.ensures.turned

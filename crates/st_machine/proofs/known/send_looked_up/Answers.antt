use Rattle.std.proofs.Common.{refl, ap, subst, arith}
use Rattle.running_objects.specs.Seen.{Seen}
use Rattle.look_up_cache.specs.Table.{held_at}
use Rattle.st_machine.specs.Led.{UnitTurned}
use Rattle.st_machine.specs.Parts.{framed, table_of}
use Rattle.st_machine.proofs.KnownAnswers.{known_led}
use Rattle.st_machine.proofs.ReadyAnswers.{put_answered}
use Rattle.st_machine.proofs.known.send_looked_up.Goals as goal

pub returns-then-put_at-clause-led : goal.returns-then-put_at-clause-led
returns-then-put_at-clause-led g c =
    let seen = g.O.Objects.seen c.args.objects.now in
    known_led c.args.depth (table_of c.args.code.now) c.args.selector.now c.args.count c.args.place c.args.stack.now.own
    c.put_at.new.stack.own c.args.chain.now.own c.args.frame.now seen (g.O.Objects.seen c.spend_unit.new.objects)
    c.args.locals.now c.requires
    (λ budget. put_answered c.args.depth (omega (arith, c.if-depth-eq0.false)) c.args.selector.now
    (framed c.args.chain.now.own c.args.frame.now) c.args.stack.now.own c.args.count
    (held_at (g.O.FindsMethods.founds c.args.objects.now) c.in-Some.at) c.put_at.new.stack.own seen budget
    (c.in-Some.ensures budget) (c.if-put_at.ensures.put refl))
    c.spend_unit.result (subst (λ (s : Seen). UnitTurned c.args.place s c.spend_unit.result
    (g.O.Objects.seen c.spend_unit.new.objects)) (ap g.O.Objects.seen c.if-put_at.ensures.objects)
    c.spend_unit.ensures.turned)

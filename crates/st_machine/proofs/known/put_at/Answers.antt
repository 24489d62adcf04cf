use Rattle.std.proofs.Common.{ap, subst, suc, take, drop, get_or, reverse}
use Rattle.gem_object.specs.declared.value.Value.TheVariants.{Nil}
use Rattle.running_objects.specs.Seen.{Seen}
use Rattle.look_up_cache.specs.Table.{held_at}
use Rattle.st_compiler.specs.Emitted.{instruction_of}
use Rattle.st_machine.specs.Ready.{ReadyPut, by_push, by_primitive}
use Rattle.st_machine.proofs.KnownAnswers.{quick_named}
use Rattle.st_machine.proofs.known.put_at.Goals as goal

pub returns-in-Primitive-clause-put : goal.returns-in-Primitive-clause-put
returns-in-Primitive-clause-put g c = λ is.
    let own = c.args.stack.now.own in
    let Here : Seen → Type 0 = λ seen. ReadyPut c.in-Primitive.number (get_or own c.args.count Nil)
    (reverse (take c.args.count own)) seen (drop (suc c.args.count) own) c.put_ready.new.stack.own in
    by_primitive c.in-Some.found.now c.in-Primitive.number c.in-Some.ensures c.in-Primitive.is
    (subst Here (ap g.O.Objects.seen c.keep_element.ensures) (c.put_ready.ensures.put is))

pub returns-in-Some-quick_at-clause-put : goal.returns-in-Some-quick_at-clause-put
returns-in-Some-quick_at-clause-put g c = λ is.
    by_push c.in-Some.found.now (instruction_of c.in-Some-quick_at.instr.now) c.in-Some.ensures
    (quick_named (held_at (g.O.FindsMethods.founds c.args.objects.now) c.args.at) c.in-Some.found.now
    (instruction_of c.in-Some-quick_at.instr.now) c.in-Some.ensures c.in-Some-quick_at.ensures)
    (c.put_push.ensures.put is)

use Rattle.std.proofs.Common.{ap, suc, drop, get_or}
use Rattle.gem_object.specs.declared.value.Value.TheVariants.{Nil}
use Rattle.st_compiler.specs.Emitted.{instruction_of}
use Rattle.look_up_cache.specs.Variables.{bare_frame}
use Rattle.st_machine.proofs.KnownAnswers.{constant_pushed, name_pushed}
use Rattle.st_machine.proofs.known.put_push.Goals as goal

pub returns-in-PushName-clause-put : goal.returns-in-PushName-clause-put
returns-in-PushName-clause-put g c = λ is.
    name_pushed (instruction_of c.args.instr.now) c.in-PushName.name
    (bare_frame (get_or c.args.stack.now.own c.args.count Nil) c.args.holder c.args.class_side)
    (g.O.Objects.seen c.args.objects.now) (drop (suc c.args.count) c.args.stack.now.own) c.put_variable.new.stack.own
    (ap instruction_of c.in-PushName.is) (c.put_variable.ensures.put is)

pub returns-in_default-clause-put : goal.returns-in_default-clause-put
returns-in_default-clause-put g c = λ is.
    constant_pushed (instruction_of c.args.instr.now)
    (bare_frame (get_or c.args.stack.now.own c.args.count Nil) c.args.holder c.args.class_side)
    (g.O.Objects.seen c.args.objects.now) (drop (suc c.args.count) c.args.stack.now.own) c.put_constant.new.stack.own
    (c.put_constant.ensures.put is)

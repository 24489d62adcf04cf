use Rattle.st_machine.proofs.KnownAnswers.{variable_pushed}
use Rattle.st_machine.proofs.known.put_variable.Goals as goal

pub returns-in-Some-clause-put : goal.returns-in-Some-clause-put
returns-in-Some-clause-put g c = λ is.
    variable_pushed c.args.name.now c.at_depth.result.now c.args.stack.now.own c.args.count c.requires c.at_depth.ensures
    c.args.holder c.args.class_side (g.O.Objects.seen c.args.objects.now) c.in-Some.value
    c.put_over.new.stack.own c.in-Some.ensures c.put_over.ensures.own

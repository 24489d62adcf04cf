use Rattle.st_machine.proofs.ReadyAnswers.{ready_put}
use Rattle.st_machine.proofs.known.put_ready.Goals as goal

pub returns-in-Some-clause-put : goal.returns-in-Some-clause-put
returns-in-Some-clause-put g c = λ is.
    ready_put c.args.stack.now.own c.args.count c.requires c.at_depth.result.now c.at_depth.ensures c.args.number
    c.upper.result.now (g.O.Objects.seen c.args.objects.now) c.in-Some.value c.put_over.new.stack.own
    c.in-Some.ensures c.upper.ensures c.put_over.ensures.own

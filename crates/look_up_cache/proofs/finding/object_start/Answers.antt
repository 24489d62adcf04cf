use Rattle.look_up_cache.proofs.Again.{begun_here}
use Rattle.look_up_cache.proofs.finding.object_start.Goals as goal

pub returns : goal.returns
returns c = λ seen all. begun_here c.args.name c.in_ok-receiver.receiver.now c.copy.result c.in_ok-receiver.ensures.name
    c.copy.ensures seen (c.in_ok-receiver.ensures.met seen all)

use Rattle.look_up_cache.specs.Memory.{start_at, founds}
use Rattle.look_up_cache.proofs.Again.{for_known}
use Rattle.look_up_cache.proofs.finding.known_place.Goals as goal

pub returns : goal.returns
returns g c = λ seen holds. for_known (founds c.args.memory.now.methods.items) c.args.receiver.now c.args.selector.now
    (start_at c.in_ok-start.start) seen c.place_of.result (c.in_ok-start.ensures seen holds) (c.place_of.ensures seen holds)

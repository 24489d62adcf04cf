use Rattle.look_up_cache.specs.Table.{held_at}
use Rattle.look_up_cache.specs.Memory.{with_budget}
use Rattle.look_up_cache.proofs.Gives.{known_does}
use Rattle.look_up_cache.proofs.Meets.{known_with}
use Rattle.look_up_cache.proofs.known.KnownObjects.known_method.Goals as goal

pub returns : goal.returns
returns g c = λ budget. known_does c.args.frame.now c.args.receiver.now c.args.selector.now
    (held_at c.args.self.now.1 c.in_ok-at.at) (with_budget budget (g.O.Objects.seen c.args.self.now.0))
    (known_with c.args.receiver.now c.args.selector.now (held_at c.args.self.now.1 c.in_ok-at.at)
    (g.O.Objects.seen c.args.self.now.0) budget c.in_ok-at.ensures)

use Rattle.std.proofs.Common.{ap}
use Rattle.st_machine.specs.Layers.{Layers}
use Rattle.st_machine.proofs.Taken.{put_own}
use Rattle.st_machine.proofs.layers.Layers.push_all.Goals as goal

pub returns-clause-pushed : goal.returns-clause-pushed
returns-clause-pushed g c =
    put_own c.self.inside.items.items c.args.items.items c.args.self.now.own c.append.new.self.items c.self.inside.base
    (ap (λ (layers : Layers _). layers.own) c.self.view_is) c.self.invariant c.in_ok-append.ensures.items

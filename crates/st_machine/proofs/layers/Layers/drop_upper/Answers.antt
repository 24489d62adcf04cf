use Rattle.std.proofs.Common.{◌≡◌, ap, length, rules}
use Rattle.st_machine.specs.Layers.{Layers}
use Rattle.st_machine.proofs.Upper.{own_left}
use Rattle.st_machine.proofs.layers.Layers.drop_upper.Goals as goal

pub returns-then-count-gt0-clause-own : goal.returns-then-count-gt0-clause-own
returns-then-count-gt0-clause-own g c =
    let size : c.len.result ≡ length c.self.inside.items.items = search rules in
    own_left c.self.inside.items.items c.args.self.now.own c.self.inside.base c.args.count c.len.result
    (ap (λ (layers : Layers _). layers.own) c.self.view_is) c.requires c.self.invariant size _ c.truncate.ensures.items

use Rattle.std.proofs.Common.{◌≡◌, ap, length, rules}
use Rattle.st_machine.specs.Layers.{Layers}
use Rattle.st_machine.proofs.PutItem.{put_own, own_size}
use Rattle.st_machine.proofs.layers.Layers.put.Goals as goal

pub returns-clause-own : goal.returns-clause-own
returns-clause-own g c =
    let items = c.self.inside.items.items in
    let own = ap (λ (layers : Layers _). layers.own) c.self.view_is in
    let size : c.len.result ≡ length items = search rules in
    put_own items c.args.self.now.own c.self.inside.base c.args.depth c.len.result c.args.item own size
    (own_size items c.args.self.now.own c.self.inside.base c.args.depth c.len.result own size c.requires)

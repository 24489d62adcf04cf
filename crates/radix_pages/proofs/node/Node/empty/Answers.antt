use Rattle.std.proofs.Common.{ap}
use Rattle.radix_pages.specs.Level.{level}
use Rattle.radix_pages.proofs.Slots.{empty_map}
use Rattle.radix_pages.proofs.node.Node.empty.Goals as goal

pub returns-clause-node : goal.returns-clause-node
returns-clause-node g c =
    ap (λ m. level c.args.bits c.args.height m)
    (empty_map c.args.bits c.args.height c.new.result.items c.new.ensures.items)

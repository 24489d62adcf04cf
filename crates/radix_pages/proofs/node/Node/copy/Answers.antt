use Rattle.std.proofs.Common.{ap, ◌∙◌}
use Rattle.radix_pages.specs.Level.{level}
use Rattle.radix_pages.proofs.Slots.{map_of-clone, clone_built}
use Rattle.radix_pages.proofs.node.Node.copy.Goals as goal

pub invariant_of-result : goal.invariant_of-result
invariant_of-result g c =
    let inner = c.self.inside in
    clone_built inner.bits inner.height inner.slots.items c.in_ok-slots.slots.items c.in_ok-slots.ensures.cases.0 c.self.invariant

pub returns-clause-node : goal.returns-clause-node
returns-clause-node g c =
    let inner = c.self.inside in
    ap (λ m. level inner.bits inner.height m)
    (map_of-clone inner.bits inner.height inner.slots.items c.in_ok-slots.slots.items c.in_ok-slots.ensures.cases.0)
    ∙ c.self.view_is

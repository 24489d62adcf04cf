use Rattle.std.proofs.Common.{◌≡◌, ◌+◌, ◌*◌, ◌^◌, ◌<◌}
use Rattle.std.specs.FinMap.{get}
use Rattle.radix_pages.proofs.node.Node.leaf.Given as goal

-- what the rest of the key finds in this node is what the key finds in the first one
abbrev pub invariant-down : goal.invariant-down
invariant-down g l =
    (l.rest < 2 ^ (l.node.bits * (l.node.height + 1)))
    × (get l.node.map l.rest ≡ get l.fn.self.map l.fn.key)

use Rattle.std.proofs.Common.{◌+◌, ◌*◌}
use Rattle.radix_pages.proofs.Nexts.{IsReached, height_in}
use Rattle.radix_pages.proofs.next.+next.Given as goal

abbrev pub invariant-next_in-loop-at : goal.invariant-next_in-loop-at
invariant-next_in-loop-at g l =
    IsReached l.node-inside.bits l.node-inside.height l.node-inside.slots.items l.key l.at l.from

abbrev pub decreases-next_in : goal.decreases-next_in
decreases-next_in g l = 2 * l.node.now.height + 1

abbrev pub decreases-next_below : goal.decreases-next_below
decreases-next_below g l = 2 * height_in l.slot.now

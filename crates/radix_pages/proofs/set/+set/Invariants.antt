use Rattle.std.proofs.Common.{◌+◌, ◌*◌}
use Rattle.radix_pages.proofs.set.+set.Given as goal

abbrev pub decreases-set_node : goal.decreases-set_node
decreases-set_node g l = 2 * l.node.now.height

abbrev pub decreases-set_below : goal.decreases-set_below
decreases-set_below g l = 2 * l.height + 1

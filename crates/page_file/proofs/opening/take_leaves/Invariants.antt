use Rattle.std.proofs.Common.{length}
use Rattle.page_file.proofs.Taking.{Stored, Taking}
use Rattle.page_file.proofs.opening.take_leaves.Given as goal

abbrev pub invariant-loop-leaf : goal.invariant-loop-leaf
invariant-loop-leaf g l = Taking l.fn.leaves.items l.leaves.items l.image l.places.items × Stored l.leaves.items

abbrev pub decreases-loop-leaf : goal.decreases-loop-leaf
decreases-loop-leaf g l = length l.leaves.items

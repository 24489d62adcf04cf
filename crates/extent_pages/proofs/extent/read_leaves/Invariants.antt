use Rattle.std.proofs.Common.{IsTrue, length}
use Rattle.extent_pages.proofs.Extents.{LeavesRun}
use Rattle.extent_pages.proofs.extent.read_leaves.Given as goal

abbrev pub invariant-loop-entry : goal.invariant-loop-entry
invariant-loop-entry g l = LeavesRun (IsTrue g.D.Disk.tells) (g.D.Disk.past l.fn.disk) (g.D.Disk.past l.disk)
    (g.D.Disk.faults l.fn.disk) (g.D.Disk.faults l.disk) l.fn.marks.items l.marks.items l.entries l.leaves.items l.rest

abbrev pub decreases-loop-entry : goal.decreases-loop-entry
decreases-loop-entry g l = length l.rest

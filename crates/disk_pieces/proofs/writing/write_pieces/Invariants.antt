use Rattle.std.proofs.Common.{◌≡◌, length, IsTrue}
use Rattle.disk_pieces.proofs.SoFar.{SoFar}
use Rattle.disk_pieces.proofs.writing.write_pieces.Given as goal

abbrev pub invariant-loop-piece : goal.invariant-loop-piece
invariant-loop-piece g l =
    (IsTrue g.D.Disk.tells → SoFar l.pieces l.rest (g.D.Disk.past l.fn.disk) (g.D.Disk.past l.disk))
    × (g.D.Disk.faults l.disk ≡ g.D.Disk.faults l.fn.disk)

abbrev pub decreases-loop-piece : goal.decreases-loop-piece
decreases-loop-piece g l = length l.rest

use Rattle.std.proofs.Common.{◌≡◌, ◌-◌, IsTrue}
use Rattle.gem_disk.specs.declared.disk.Which.TheVariants.{Log}
use Rattle.gem_disk.specs.Disk.{reads}
use Rattle.tran_log.specs.Reads.{IsPiece}
use Rattle.tran_log.proofs.Replays.{IsUnderWay}
use Rattle.tran_log.proofs.replay.replay_chain.Given as goal

-- the disk is as it was, and the records up to here were taken
abbrev pub invariant-loop-at : goal.invariant-loop-at
invariant-loop-at g l = record {
  past : IsTrue g.D.Disk.tells → g.D.Disk.past l.disk ≡ g.D.Disk.past l.fn.disk;
  faults : g.D.Disk.faults l.disk ≡ g.D.Disk.faults l.fn.disk;
  piece : IsPiece g.D.Disk.tells (reads (g.D.Disk.past l.fn.disk) Log) l.size l.at l.piece;
  going : IsUnderWay g.R.Replay.takes l.fn.replay l.replay g.D.Disk.tells (reads (g.D.Disk.past l.fn.disk) Log) l.at l.last;
}

abbrev pub decreases-loop-at : goal.decreases-loop-at
decreases-loop-at g l = l.size - l.at

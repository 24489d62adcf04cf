-- What crashes leave of an extent during a run of disk calls on it, said by any property of bytes.
use Rattle.std.specs.Prelude.{◌≡◌, ◌⊎◌, ℕ, ◌≤◌, List, length}
use Rattle.gem_disk.specs.declared.disk.Which.TheVariants.{Extent, Log}
use Rattle.gem_disk.specs.Disk.{Files, Wrote, Synced, Past, reads, stepped, Torn, FileImages}
use Rattle.gem_disk.specs.Runs.{LeavesOnly}
use Rattle.disk_pieces.specs.Pieces.{Piece, Ascend, Kept, AllMiss}

-- all of the extent is on the disk: a crash leaves what a read gives
abbrev pub IsDurable : Past → Type 0
IsDurable past = (image : List ℕ) → FileImages past.first past.steps Extent image
    → image ≡ reads past Extent

-- the extent has lost no byte
abbrev pub IsLonger : Past → Past → Type 0
IsLonger old new = length (reads old Extent) ≤ length (reads new Extent)

-- a crash leaves an extent that has P, and of the log what it might have left before
pub record ExtentHas (P : List ℕ → Type 0) (past : Past) (images : Files) : Type 0 where
  pub extent : P images.extent
  pub log : FileImages past.first past.steps Log images.log

-- From old to now a crash at any moment, the first and the last included, leaves of the extent only
-- what has P, and of the log what it might have left before. The extent reads as something that has
-- P, and the log as before.
pub record OnlyLeaves (P : List ℕ → Type 0) (old now : Past) : Type 0 where
  pub run : LeavesOnly old now (ExtentHas P old)
  pub images : (image : List ℕ) → FileImages now.first now.steps Extent image → P image
  pub log : (image : List ℕ) → FileImages now.first now.steps Log image
      → FileImages old.first old.steps Log image
  pub read : P (reads now Extent)
  pub log_read : reads now Log ≡ reads old Log

-- Pieces may be written: all of the extent is on the disk, and the pieces touch neither each other
-- nor what has to stay.
pub record MayWrite (past : Past) (kept : Kept) (pieces : List Piece) : Type 0 where
  pub durable : IsDurable past
  pub ascend : Ascend kept.front pieces
  pub miss : AllMiss kept pieces

-- One byte of the extent was written at this offset, or what a write of it that failed left there, and
-- then brought to the disk or not. Nothing else was done.
pub record ByteWritten (at : ℕ) (old new : Past) : Type 0 where
  pub written : List ℕ
  pub torn : Torn at 1 (reads old Extent) written
  pub steps : (new ≡ stepped old Extent (Wrote at 1) written)
      ⊎ (new ≡ stepped (stepped old Extent (Wrote at 1) written) Extent Synced written)

-- Up to some moment a crash leaves of the extent only what has P, and of the log what it might have
-- left before. From that moment on nothing was done; or all of the extent was on the disk then, and
-- one byte was written at this offset.
pub record SwitchesLast (P : List ℕ → Type 0) (at : ℕ) (old new : Past) : Type 0 where
  pub between : Past
  pub only : OnlyLeaves P old between
  pub last : (new ≡ between) ⊎ (IsDurable between × ByteWritten at between new)

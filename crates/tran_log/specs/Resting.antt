-- How a log stands on its disk between calls, and what a crash leaves of it.
use Rattle.std.specs.Prelude.{◌≡◌, ◌⊎◌, ℕ, Bool, IsTrue, List, [], ◌∷◌, ◌++◌, Ok, None}
use Rattle.gem_record.specs.declared.mode.Mode.{Mode}
use Rattle.gem_record.specs.declared.effect.Effect.{Effect}
use Rattle.gem_disk.specs.declared.disk.Which.TheVariants.{Extent, Log}
use Rattle.gem_disk.specs.Disk.{Files, Past, reads, as_read, FileImages, CrashImages, Torn, placed}
use Rattle.tran_log.specs.declared.logged.Logged.{Logged}
use Rattle.tran_log.specs.Log.{Format2, log_of, spelled_record, IsNext, AreRecords, logged_from, last_number, written, AreBodies}
use Rattle.tran_log.specs.Reads.{EndsAt, AreRead, TakesAll}

-- all of the log is on the disk: a crash leaves what a read gives
abbrev pub IsDurable : Past → Type 0
IsDurable past = (image : List ℕ) → FileImages past.first past.steps Log image
    → image ≡ reads past Log

-- the extent reads as before
abbrev pub SameExtent : Past → Past → Type 0
SameExtent old new = reads new Extent ≡ reads old Extent

-- Where a disk as it reads was one of its crash images, it is one still.
abbrev pub StaysHonest : Past → Past → Type 0
StaysHonest old new = CrashImages old (as_read old) → CrashImages new (as_read new)

-- The log holds these records and ends at a closed gate at this offset; all of it is on the disk.
pub record IsAtRest (past : Past) (logged : List Logged) (end : ℕ) : Type 0 where
  pub ends : EndsAt (reads past Log) logged end
  pub durable : IsDurable past

-- a crash leaves these records in the log, and of the extent what it might have left before
pub record Holds (past : Past) (logged : List Logged) (images : Files) : Type 0 where
  pub log : log_of images.log ≡ Ok logged
  pub extent : FileImages past.first past.steps Extent images.extent

-- a crash leaves what the log read as, and of the extent what it might have left before
pub record HoldsAsRead (past : Past) (images : Files) : Type 0 where
  pub log : log_of images.log ≡ log_of (reads past Log)
  pub extent : FileImages past.first past.steps Extent images.extent

-- a crash leaves what it might have left before, or a log that holds what this one read as
abbrev pub IsOldOrRead : Past → Files → Type 0
IsOldOrRead past images = CrashImages past images ⊎ HoldsAsRead past images

-- at this moment a crash leaves these records in the log
abbrev pub AllHold : Past → List Logged → Type 0
AllHold past logged = (images : Files) → CrashImages past images → log_of images.log ≡ Ok logged

-- A log was opened: its records were taken one after the other. Where the disk tells what it reads
-- as, they are those of the file, and the log is at rest.
pub record HasReplayed {T : Type 0} (takes : T → Logged → T → Type 0) (old new : T) (tells : Bool)
    (file : List ℕ) (past : Past) (end : ℕ) : Type 0 where
  pub logged : List Logged
  pub read : AreRead logged
  pub taken : TakesAll takes old logged new
  pub holds : IsTrue tells → log_of file ≡ Ok logged
  pub at_rest : IsTrue tells → IsAtRest past logged end

-- What a write of so many bytes into a log that was all on the disk may leave, and of the extent
-- what a crash might have left before.
pub record IsTornAt (past : Past) (at n : ℕ) (images : Files) : Type 0 where
  pub log : Torn at n (reads past Log) images.log
  pub extent : FileImages past.first past.steps Extent images.extent

-- These bytes stand in the log, on the disk; of the extent a crash leaves what it left before.
pub record IsWritten (at : ℕ) (bytes : List ℕ) (old new : Past) : Type 0 where
  pub log : reads new Log ≡ placed at bytes (reads old Log)
  pub durable : IsDurable new
  pub extent : (image : List ℕ) → FileImages new.first new.steps Extent image
      → FileImages old.first old.steps Extent image

-- A record may be added: the log is at rest, the effect is the next one, and the body is its record
-- with the gate behind it, closed.
pub record MayAppend (past : Past) (end : ℕ) (body : List ℕ) (logged : List Logged) (mode : Mode)
    (effect : Effect) : Type 0 where
  pub at_rest : IsAtRest past logged end
  pub next : IsNext (last_number None logged) (Format2 mode effect)
  pub body_is : body ≡ spelled_record mode effect ++ (0 ∷ [])

-- Effects with their modes may be added at once: the log is at rest, the first effect is the next
-- one, and so is each behind the one before it; the bytes are their bodies.
pub record MayChain (past : Past) (end : ℕ) (bytes : List ℕ) (logged : List Logged)
    (more : List (Mode × Effect)) : Type 0 where
  pub at_rest : IsAtRest past logged end
  pub next : AreRecords (last_number None logged) (written more)
  pub bytes_are : AreBodies more bytes

-- what is read of them where they are added at this offset
abbrev pub added : (end : ℕ) → List (Mode × Effect) → List Logged
added end more = logged_from end (written more)

-- a crash leaves these records in the log, or these and all of the others
abbrev pub HoldsEither : Past → List Logged → List Logged → Files → Type 0
HoldsEither past logged more images =
    Holds past logged images ⊎ Holds past (logged ++ more) images

-- the log reads as these records, or as these and all of the others
abbrev pub ReadsEither : Past → List Logged → List Logged → Type 0
ReadsEither past logged more = (log_of (reads past Log) ≡ Ok logged)
    ⊎ (log_of (reads past Log) ≡ Ok (logged ++ more))

-- a crash leaves all of these records in the log, or none
abbrev pub HoldsOrNone : Past → List Logged → Files → Type 0
HoldsOrNone past logged images = Holds past logged images ⊎ Holds past [] images

-- the log reads as all of these records, or as none
abbrev pub ReadsOrNone : Past → List Logged → Type 0
ReadsOrNone past logged = (log_of (reads past Log) ≡ Ok logged) ⊎ (log_of (reads past Log) ≡ Ok [])

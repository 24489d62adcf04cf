-- What functions that read give, unless memory runs out.
use Rattle.std.specs.Prelude.{◌≡◌, ◌≢◌, ℕ, ◌+◌, ◌≤◌, ◌==◌, nat_lt, Bool, IsTrue, if◌then◌else◌, List, [], ◌∷◌, ◌++◌, length, take, drop, Option, Some, None, Result, Ok, Err}
use Rattle.tran_log.specs.declared.fault.LogRule.{LogRule}
use Rattle.tran_log.specs.declared.fault.LogFault.{LogFault}
use Rattle.tran_log.specs.declared.fault.LogFault.TheVariants.{NotLog, Disk, NoMemory}
use Rattle.tran_log.specs.declared.fault.ReadError.{ReadError}
use Rattle.tran_log.specs.declared.fault.ReadError.TheVariants as errors
use Rattle.tran_log.specs.declared.logged.Logged.{Logged}
use Rattle.tran_log.specs.declared.read.Next.{Next}
use Rattle.tran_log.specs.Log.{Fault, LogRecord, effect_of, mode_of, spelled, chain, IsNext, AreRecords, logged_as, logged_from, length_in, record_at}

-- what a function returned is what reading gives, or the rule that it says is broken
abbrev pub GivesRecord : {X Y : Type 0} → (X → Y) → Result X ReadError → Result Y LogRule → Type 0
GivesRecord view (Ok x) read = read ≡ Ok (view x)
GivesRecord view (Err errors.NoMemory) read = Unit {0}
GivesRecord view (Err (errors.Rule broken)) read = read ≡ Err broken

-- the same of a record that is told with what stands behind it, whose gate is at this offset
abbrev pub NextFails : {X : Type 0} → ℕ → Result X LogRule → LogFault → Type 0
NextFails at read (NotLog place broken) = (place ≡ at) × (read ≡ Err broken)
NextFails at read Disk = ⊥
NextFails at read NoMemory = Unit {0}

-- ---- A record, from the bytes that begin with it.

-- How many bytes the record takes that stands behind the gate which begins the bytes, with the gate;
-- 13 where they are fewer. None where they don't begin with an open gate.
abbrev pub bytes_due : List ℕ → Option ℕ
bytes_due [] = None
bytes_due (gate ∷ bytes) = if gate == 1
    then Some (if nat_lt (length bytes) 12 then 13 else 13 + length_in bytes)
    else None

-- The bytes begin with a record that may stand behind one of this number. It was read so, with its
-- gate at this offset.
pub record IsFront (at : ℕ) (last : Option ℕ) (bytes : List ℕ) (next : Next) : Type 0 where
  pub written : LogRecord
  pub rest : List ℕ
  pub parts : bytes ≡ spelled written ++ rest
  pub next_is : IsNext last written
  pub one_is : next.one ≡ logged_as at (mode_of written) (effect_of written)
  pub bytes_are : next.bytes ≡ 1 + length (spelled written)

-- ---- A log, from a disk that may tell what it reads as: then this is the file.

-- bytes that were read of a log of this size, from an offset on
pub record IsPiece (tells : Bool) (file : List ℕ) (size at : ℕ) (piece : List ℕ) : Type 0 where
  pub inside : at + length piece ≤ size
  pub bytes_are : IsTrue tells → piece ≡ take (length piece) (drop at file)

-- no open gate stands at this offset, but something does
pub record IsClosedAt (file : List ℕ) (at : ℕ) : Type 0 where
  pub gate : ℕ
  pub rest : List ℕ
  pub file_is : drop at file ≡ gate ∷ rest
  pub closed : gate ≢ 1

-- An open gate stands at this offset, and the record behind it takes so many bytes with the gate.
pub record IsOpenAt (file : List ℕ) (at due : ℕ) : Type 0 where
  pub rest : List ℕ
  pub file_is : drop at file ≡ 1 ∷ rest
  pub due_is : due ≡ 13 + length_in rest

-- An open gate stands at this offset, and behind it a record that may stand behind one of this
-- number. It was read so.
pub record IsNextAt (tells : Bool) (file : List ℕ) (at : ℕ) (last : Option ℕ) (next : Next) : Type 0 where
  pub written : LogRecord
  pub next_is : IsNext last written
  pub one_is : next.one ≡ logged_as at (mode_of written) (effect_of written)
  pub bytes_are : next.bytes ≡ 1 + length (spelled written)
  pub file_is : IsTrue tells
      → drop at file ≡ 1 ∷ (spelled written ++ drop (at + next.bytes) file)

-- what stands at this offset: a record, or no open gate
abbrev pub IsAt : Bool → List ℕ → ℕ → Option ℕ → Option Next → Type 0
IsAt tells file at last None = IsTrue tells → IsClosedAt file at
IsAt tells file at last (Some next) = IsNextAt tells file at last next

-- an open gate stands at this offset, and what is behind it breaks the rule
pub record IsBrokenAt (file : List ℕ) (at : ℕ) (last : Option ℕ) (broken : LogRule) : Type 0 where
  pub rest : List ℕ
  pub file_is : drop at file ≡ 1 ∷ rest
  pub breaks : record_at last rest ≡ Err broken

abbrev pub BreaksAt : List ℕ → ℕ → Option ℕ → LogFault → Type 0
BreaksAt file at last (NotLog place broken) = (place ≡ at) × IsBrokenAt file at last broken
BreaksAt file at last Disk = Unit {0}
BreaksAt file at last NoMemory = Unit {0}

-- ---- A log, whole.

-- The records were taken one after the other, where takes says what one of them makes of what
-- takes it.
abbrev pub TakesAll : {T : Type 0} → (T → Logged → T → Type 0) → T → List Logged → T → Type 0
TakesAll takes old [] new = new ≡ old
TakesAll {T} takes old (one ∷ logged) new =
    (mid : T) × takes old one mid × TakesAll takes mid logged new

-- what is told of a log that fails is its first fault; a disk may fail before that is read
abbrev pub LogFails : Result (List Logged) Fault → LogFault → Type 0
LogFails read (NotLog at broken) = read ≡ Err (at, broken)
LogFails read Disk = Unit {0}
LogFails read NoMemory = Unit {0}

abbrev pub GivesLog : {X : Type 0} → (X → List Logged) → Result (List Logged) Fault
    → Result X LogFault → Type 0
GivesLog view read (Ok x) = read ≡ Ok (view x)
GivesLog view read (Err fault) = LogFails read fault

-- The bytes are records that are read so, and a gate at this offset that isn't open, with anything
-- behind it.
pub record EndsAt (bytes : List ℕ) (logged : List Logged) (end : ℕ) : Type 0 where
  pub chained : List LogRecord
  pub gate : ℕ
  pub behind : List ℕ
  pub file : bytes ≡ chain chained ++ (gate ∷ behind)
  pub closed : gate ≢ 1
  pub records : AreRecords None chained
  pub logged_is : logged ≡ logged_from 0 chained
  pub end_is : end ≡ length (chain chained)

-- what is read of some records, each of which may stand behind the one before it
pub record AreRead (logged : List Logged) : Type 0 where
  pub records : List LogRecord
  pub follow : AreRecords None records
  pub logged_is : logged ≡ logged_from 0 records

-- A log of which the records were taken, whatever the disk tells: they were read one behind the
-- other, up to a gate at this offset. Where it tells what it reads as, the file is theirs.
pub record IsReplayed {T : Type 0} (takes : T → Logged → T → Type 0) (old new : T) (tells : Bool)
    (file : List ℕ) (end : ℕ) : Type 0 where
  pub logged : List Logged
  pub read : AreRead logged
  pub taken : TakesAll takes old logged new
  pub ends : IsTrue tells → EndsAt file logged end

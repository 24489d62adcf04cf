-- Serving a script over a store.
use Rattle.std.specs.Prelude.{◌≡◌, ◌+◌, ◌<◌, ◌≤◌, ◌⊎◌, ℕ, Bool, IsTrue, List, [], length, Option}
use Rattle.std.specs.Io.KnownBytes.{Consumes, IsAtEnd}
use Rattle.gem_object.specs.texts.Bytes.{Bytes}
use Rattle.gem_disk.specs.Disk.{Past, as_read}
use Rattle.shell_words.specs.Script.{SessionCommands}
use Rattle.shell_words.specs.ScriptGrammar.{ReadsScript}
use Rattle.stone_store.specs.Store.{store_of}
use Rattle.stone_store.specs.Opening.{IsFound, IsFlawed}
use Rattle.stone_store.specs.declared.parts.FoundImage.{FoundImage}
use Rattle.stone_store.specs.declared.fault.StoreFault.{StoreFault}
use Rattle.stone_store.specs.declared.fault.StoreFault.TheVariants as fault
use Rattle.gem_replies.specs.Report.{report_of}
use Rattle.gem_replies.specs.declared.reply.RunBook.{RunBook}
use Rattle.gem_meaning.specs.Opened.{Opened, largest_serial, base_serial}
use Rattle.gem_meaning.specs.Events.{Event, Told, entries_of, IsRunning}
use Rattle.gem_meaning.specs.Legal.{IsLegal}
use Rattle.gem_meaning.specs.Serial.{IsConsistent, most_at_opening, serial_limit}
use Rattle.gem_server.specs.declared.status.Status.{Status}
use Rattle.gem_server.specs.declared.status.Status.TheVariants.{Done, Script, NotStore, SerialsUsed, ReadFault, DiskFault, WriteFault, NoMemory}
use Rattle.gem_server.specs.Devices.{Seen, HasFailed, IsUnused, IsWritten, IsPartWritten}
use Rattle.gem_server.specs.Server.{IsRead, IsBlank, IsBlankOver}
use Rattle.gem_server.specs.Course.{Stays, IsOpenedOn, IsKeptOn}

-- the status that tells why a store can't be opened
abbrev pub status_of_store : StoreFault → Status
status_of_store (fault.NotStore flaw) = NotStore flaw
status_of_store fault.Disk = DiskFault
status_of_store fault.NoMemory = NoMemory

-- ---- The sessions didn't run.

-- The source gave a script, and the image of the store has no room for its sessions: they need more
-- serials than are left, or no more commits may be numbered.
pub record HasNoRoom (tells : Bool) (source : Seen (Option Bytes)) (disk : Seen Past)
    (base sessions : ℕ) : Type 0 where
  pub text : Bytes
  pub given : Consumes source.before source.after text
  pub at_end : IsAtEnd source.after
  pub script : List SessionCommands
  pub reads : ReadsScript text script
  pub sessions_are : sessions ≡ length script
  pub opened : FoundImage
  pub found : IsTrue tells → IsFound (store_of (as_read disk.before)) opened
  pub base_is : base ≡ largest_serial opened.image + 1
  pub why : (serial_limit < base + sessions) ⊎ (most_at_opening < opened.number)

-- Why the sessions didn't run, by the status.
abbrev pub IsWhyNot : Bool → Seen (Option Bytes) → Seen Past → Status → Type 0
IsWhyNot tells source disk (Script line rule) = Unit {0}
IsWhyNot tells source disk ReadFault = Unit {0}
IsWhyNot tells source disk NoMemory = Unit {0}
IsWhyNot tells source disk (NotStore flaw) =
    IsTrue tells → IsFlawed (store_of (as_read disk.before)) flaw
IsWhyNot tells source disk (SerialsUsed base sessions) = HasNoRoom tells source disk base sessions
IsWhyNot tells source disk DiskFault = HasFailed disk
IsWhyNot tells source disk _ = ⊥

-- What the book tells then: where the store was opened, and has no room, its number and its base.
abbrev pub IsBlankBy : (tells : Bool) (source : Seen (Option Bytes)) (disk : Seen Past)
    (status : Status) → IsWhyNot tells source disk status → List Event → RunBook → Type 0
IsBlankBy tells source disk (SerialsUsed base sessions) room events book =
    IsBlankOver room.opened.number base events book
IsBlankBy tells source disk _ why events book = IsBlank events book

-- The sessions didn't run, and nothing was written. What the files hold stays.
pub record HasNotRun (tells : Bool) (source sink : Seen (Option Bytes)) (disk : Seen Past)
    (status : Status) (events : List Event) (book : RunBook) : Type 0 where
  pub why : IsWhyNot tells source disk status
  pub blank : IsBlankBy tells source disk status why events book
  pub unwritten : IsUnused sink
  pub stays : Stays tells disk

-- ---- They ran.

-- How a run ended, by the status. But for want of memory the book and the events are those of a legal
-- run: with its whole report; with a part of it, where the sink failed; where the disk had failed,
-- with the report, or with a part of it where the sink failed, too. Else there is no transcript, and
-- nothing was written.
abbrev pub HasEnded : Seen (Option Bytes) → Told → RunBook → Status → Type 0
HasEnded sink t book Done =
    IsLegal t book × IsRunning t.events × IsWritten sink (report_of book)
HasEnded sink t book WriteFault = IsLegal t book × IsRunning t.events
    × HasFailed sink × IsPartWritten sink (report_of book)
HasEnded sink t book DiskFault = IsLegal t book × (IsRunning t.events → ⊥)
    × (IsWritten sink (report_of book) ⊎ (HasFailed sink × IsPartWritten sink (report_of book)))
HasEnded sink t book NoMemory = (book.transcripts ≡ []) × IsUnused sink
HasEnded sink t book _ = ⊥

-- The source gave a script to its end, and its sessions ran over what the store holds: the Stone was
-- opened with that, the book has its commits, the disk is kept on as its events say, and the status
-- tells how the run ended.
pub record HasRun (tells : Bool) (source sink : Seen (Option Bytes)) (disk : Seen Past)
    (status : Status) (events : List Event) (book : RunBook) : Type 0 where
  pub opened : Opened
  pub text : Bytes
  pub given : Consumes source.before source.after text
  pub at_end : IsAtEnd source.after
  pub reads : ReadsScript text opened.script
  pub opened_on : IsOpenedOn tells (as_read disk.before) opened
  pub consistent : IsConsistent (record { opened = opened; events = events })
  pub first : book.first ≡ opened.number
  pub base : book.base ≡ base_serial opened
  pub history : book.history ≡ entries_of events
  pub kept : IsKeptOn tells disk (record { opened = opened; events = events })
  pub ended : HasEnded sink (record { opened = opened; events = events }) book status

-- ---- Both.

-- What the end says where a script was to be served over a store.
pub record ServesStore (tells : Bool) (source sink : Seen (Option Bytes)) (disk : Seen Past)
    (status : Status) (events : List Event) (book : RunBook) : Type 0 where
  pub read : IsRead source status
  pub course : HasNotRun tells source sink disk status events book
      ⊎ HasRun tells source sink disk status events book
  pub sink_fault_told : sink.faults < sink.faults_after
      → (status ≡ WriteFault) ⊎ (status ≡ DiskFault)
  pub later : sink.faults ≤ sink.faults_after

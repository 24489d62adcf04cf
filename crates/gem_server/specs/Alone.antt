-- Serving a script without a store.
use Rattle.std.specs.Prelude.{◌≡◌, ◌+◌, ◌<◌, ◌≤◌, ◌⊎◌, false, List, Option, None, IfSome}
use Rattle.std.specs.Io.KnownBytes.{Consumes, IsAtEnd}
use Rattle.gem_object.specs.texts.Bytes.{Bytes}
use Rattle.shell_words.specs.Script.{SessionCommands}
use Rattle.shell_words.specs.ScriptGrammar.{ReadsScript}
use Rattle.kernel_image.specs.Objects.{kernel_image}
use Rattle.gem_replies.specs.Report.{report_of}
use Rattle.gem_replies.specs.declared.reply.RunBook.{RunBook}
use Rattle.gem_image.specs.Image.{IsImage}
use Rattle.gem_keeper.specs.declared.memory.MemKeeper.{MemKeeper}
use Rattle.gem_keeper.specs.Memory.{stored_in}
use Rattle.script_run.specs.declared.run.Start.{Start}
use Rattle.gem_meaning.specs.Opened.{Opened, largest_serial}
use Rattle.gem_meaning.specs.Events.{Event, Told, IsRunning}
use Rattle.gem_meaning.specs.Legal.{IsLegal}
use Rattle.gem_server.specs.declared.status.Status.{Status}
use Rattle.gem_server.specs.declared.status.Status.TheVariants.{Done, Script, ReadFault, WriteFault, NoMemory}
use Rattle.gem_server.specs.Devices.{Seen, HasFailed, IsUnused, IsWritten, IsPartWritten}
use Rattle.gem_server.specs.Server.{IsRead, IsBlank}

-- what the Stone is opened with: the kernel's image and no commit, an empty log and no root; no
-- pages are counted
abbrev pub kernel_opening : List SessionCommands → Opened
kernel_opening script = record {
  image = kernel_image;
  number = 0;
  script = script;
  stored = record { log_length = 1; root = None };
  counts_pages = false;
}

-- these events of a Stone that was opened so
abbrev pub told_from_kernel : List SessionCommands → List Event → Told
told_from_kernel script events = record { opened = kernel_opening script; events = events }

-- The events and the book are those of a legal run of the script. There is no disk, so none failed.
pub record IsRunOfScript (script : List SessionCommands) (events : List Event) (book : RunBook)
    : Type 0 where
  pub legal : IsLegal (told_from_kernel script events) book
  pub running : IsRunning events

-- The text is a script, and the events and the book are those of a run of it.
pub record IsRunOf (text : Bytes) (events : List Event) (book : RunBook) : Type 0 where
  pub script : List SessionCommands
  pub reads : ReadsScript text script
  pub run : IsRunOfScript script events book

-- The source gave a text to its end, and the events and the book are those of a run of it.
pub record IsRun (left left' : Option Bytes) (events : List Event) (book : RunBook) : Type 0 where
  pub text : Bytes
  pub given : Consumes left left' text
  pub ended : IsAtEnd left'
  pub run : IsRunOf text events book

-- The status says that the script's sessions ran.
abbrev pub RanAlone : Status → Type 0
RanAlone Done = Unit {0}
RanAlone WriteFault = Unit {0}
RanAlone _ = ⊥

-- the status is one of those where there is no store
abbrev pub IsOfAlone : Status → Type 0
IsOfAlone Done = Unit {0}
IsOfAlone (Script line rule) = Unit {0}
IsOfAlone ReadFault = Unit {0}
IsOfAlone WriteFault = Unit {0}
IsOfAlone NoMemory = Unit {0}
IsOfAlone _ = ⊥

-- What the end says where a script was to be served without a store. Nothing but a device, or want
-- of memory, keeps a script from its report.
pub record ServesAlone (source sink : Seen (Option Bytes)) (status : Status) (events : List Event)
    (book : RunBook) : Type 0 where
  pub of_alone : IsOfAlone status
  pub read : IsRead source status
  pub legal_run : RanAlone status → IsRun source.before source.after events book
  pub blank : (RanAlone status → ⊥) → IsBlank events book
  pub report_written : status ≡ Done → IsWritten sink (report_of book)
  pub part_written : status ≡ WriteFault → IsPartWritten sink (report_of book)
  pub nothing_written : (RanAlone status → ⊥) → IsUnused sink
  pub write_fault : status ≡ WriteFault → HasFailed sink
  pub write_fault_told : sink.faults < sink.faults_after → status ≡ WriteFault
  pub later : sink.faults ≤ sink.faults_after
  pub completes : IfSome source.before (λ text. (script : List SessionCommands) → ReadsScript text script
      → (HasFailed source → ⊥) → (HasFailed sink → ⊥) → (status ≡ Done) ⊎ (status ≡ NoMemory))

-- what a run starts with that has no store
pub record IsKernelStart (start : Start MemKeeper) : Type 0 where
  pub image_is : start.image ≡ kernel_image
  pub named : IsImage start.image
  pub number_is : start.number ≡ 0
  pub base_is : start.base ≡ largest_serial start.image + 1
  pub stored_is : stored_in start.keeper ≡ record { log_length = 1; root = None }

-- What is served where no device fails and nothing is in the way.
use Rattle.std.specs.Prelude.{◌≡◌, ◌+◌, ◌≤◌, ◌⊎◌, ℕ, Bool, IsTrue, List, length, Option, Some, Ok}
use Rattle.gem_object.specs.texts.Bytes.{Bytes}
use Rattle.gem_disk.specs.Disk.{Past, as_read}
use Rattle.shell_words.specs.Script.{SessionCommands}
use Rattle.shell_words.specs.ScriptGrammar.{ReadsScript}
use Rattle.stone_store.specs.Store.{Held, store_of, image_of, number_of}
use Rattle.gem_meaning.specs.gem_sound.Sound.{IsSoundImage}
use Rattle.gem_meaning.specs.Opened.{largest_serial}
use Rattle.gem_meaning.specs.Events.{Event}
use Rattle.gem_meaning.specs.Serial.{most_at_opening, serial_limit}
use Rattle.gem_replies.specs.declared.reply.RunBook.{RunBook}
use Rattle.script_run.specs.session_laws.Faults.{HasFault}
use Rattle.gem_server.specs.declared.status.Status.{Status}
use Rattle.gem_server.specs.declared.status.Status.TheVariants.{Done, NoMemory}
use Rattle.gem_server.specs.Devices.{Seen, HasFailed}
use Rattle.gem_server.specs.Serving.{ServesStore}
use Rattle.gem_server.specs.Looking.{Checks}
use Rattle.gem_server.specs.Demo.{Demos}

-- the disk tells that the files held this, with a sound image
pub record HeldSound (tells : Bool) (disk : Seen Past) (held : Held) : Type 0 where
  pub told : IsTrue tells
  pub is : store_of (as_read disk.before) ≡ Ok held
  pub sound : IsSoundImage (image_of held)

-- and it has room for the sessions of this script
pub record HeldRoom (held : Held) (script : List SessionCommands) : Type 0 where
  pub number : number_of held ≤ most_at_opening
  pub serials : largest_serial (image_of held) + 1 + length script ≤ serial_limit

abbrev pub ServingCompletes : Type 0
ServingCompletes = (tells : Bool) (source sink : Seen (Option Bytes)) (disk : Seen Past) (status : Status)
    (events : List Event) (book : RunBook) (text : Bytes) (script : List SessionCommands) (held : Held)
    → ServesStore tells source sink disk status events book
    → source.before ≡ Some text → ReadsScript text script
    → HeldSound tells disk held → HeldRoom held script
    → (HasFailed source → ⊥) → (HasFailed sink → ⊥) → (HasFailed disk → ⊥)
    → ((status ≡ Done) ⊎ (status ≡ NoMemory)) × (HasFault book → ⊥)

abbrev pub LookingCompletes : Type 0
LookingCompletes = (tells : Bool) (sink : Seen (Option Bytes)) (disk : Seen Past) (status : Status)
    (held : Held) → Checks tells sink disk status → HeldSound tells disk held
    → (HasFailed sink → ⊥) → (HasFailed disk → ⊥) → (status ≡ Done) ⊎ (status ≡ NoMemory)

abbrev pub DemoCompletes : Type 0
DemoCompletes = (seed sessions rounds : ℕ) (sink : Seen (Option Bytes)) (status : Status)
    (events : List Event) (book : RunBook)
    → Demos seed sessions rounds sink status events book → (HasFailed sink → ⊥)
    → (status ≡ Done) ⊎ (status ≡ NoMemory)

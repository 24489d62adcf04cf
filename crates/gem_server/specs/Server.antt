-- The words of the command line, and the script that a source gives.
use Rattle.std.specs.Prelude.{◌≡◌, ◌↔◌, ℕ, ◌<◌, ◌≤◌, ◌⊎◌, List, [], length, Option}
use Rattle.std.specs.Io.KnownBytes.{Consumes, IsAtEnd}
use Rattle.gem_object.specs.texts.Bytes.{Bytes}
use Rattle.program_words.specs.Asked.{Files as Named, serve_alone, serve_store, init_store, check_store, serve_load}
use Rattle.program_words.specs.WordsGrammar.{ReadsWords}
use Rattle.shell_words.specs.declared.limits.TheConstants.{SCRIPT_LIMIT}
use Rattle.shell_words.specs.Script.{SessionCommands}
use Rattle.shell_words.specs.ScriptGrammar.{ReadsScript, BreaksRule}
use Rattle.shell_words.specs.Rules.{script_rule_number}
use Rattle.shell_words.specs.declared.fault.ScriptFault.{ScriptFault}
use Rattle.shell_words.specs.declared.fault.ScriptFault.TheVariants.{Rule, NoMemory as ShortOfMemory}
use Rattle.gem_replies.specs.declared.reply.RunBook.{RunBook}
use Rattle.gem_meaning.specs.Events.{Event}
use Rattle.gem_server.specs.declared.status.Status.{Status}
use Rattle.gem_server.specs.declared.status.Status.TheVariants.{Done, Script, NotStore, SerialsUsed, ReadFault, DiskFault, WriteFault, NoMemory}
use Rattle.gem_server.specs.Devices.{Seen, HasFailed}

-- ---- The words.

-- the words ask for a script to be served without a store
abbrev pub AsksAlone : List Bytes → Type 0
AsksAlone words = ReadsWords words serve_alone

-- for a script to be served over a store, for a new store, or for a look at a store
abbrev pub AsksStore : List Bytes → Type 0
AsksStore words = (files : Named) × ReadsWords words (serve_store files)

abbrev pub AsksInit : List Bytes → Type 0
AsksInit words = (files : Named) × ReadsWords words (init_store files)

abbrev pub AsksCheck : List Bytes → Type 0
AsksCheck words = (files : Named) × ReadsWords words (check_store files)

-- for a load of these numbers
abbrev pub AsksDemo : List Bytes → (seed sessions rounds : ℕ) → Type 0
AsksDemo words seed sessions rounds = ReadsWords words (serve_load seed sessions rounds)

-- for some load
abbrev pub AsksSomeDemo : List Bytes → Type 0
AsksSomeDemo words =
    (seed : ℕ) × ((sessions : ℕ) × ((rounds : ℕ) × AsksDemo words seed sessions rounds))

-- for one of these
abbrev pub AsksSome : List Bytes → Type 0
AsksSome words = AsksAlone words ⊎ AsksStore words ⊎ AsksInit words ⊎ AsksCheck words
    ⊎ AsksSomeDemo words

-- ---- The script.

-- the status that tells why a text is no script, or that memory ran out
abbrev pub status_of : ScriptFault → Status
status_of (Rule line rule) = Script line (script_rule_number rule)
status_of ShortOfMemory = NoMemory

-- The status says that the text was read to its end, or past the limit of a script.
abbrev pub WasRead : Status → Type 0
WasRead Done = Unit {0}
WasRead WriteFault = Unit {0}
WasRead DiskFault = Unit {0}
WasRead (NotStore flaw) = Unit {0}
WasRead (SerialsUsed base sessions) = Unit {0}
WasRead (Script line rule) = Unit {0}
WasRead _ = ⊥

-- The text that the source gave is all that it has, or it is longer than a script may be.
abbrev pub IsWhole : Option Bytes → Bytes → Type 0
IsWhole left text = IsAtEnd left ⊎ (SCRIPT_LIMIT < length text)

-- the status names a rule exactly where this text breaks it, first at that line
abbrev pub Tells : Bytes → Status → Type 0
Tells text status = (line rule : ℕ)
    → (status ≡ Script line rule) ↔ (WasRead status × BreaksRule text line rule)

-- The source gave a text, to its end or past the limit where the status says so, and the status tells
-- of it and of the source.
pub record IsRead (source : Seen (Option Bytes)) (status : Status) : Type 0 where
  pub given : Bytes
  pub gave : Consumes source.before source.after given
  pub whole : WasRead status → IsWhole source.after given
  pub tells : Tells given status
  pub fault : status ≡ ReadFault → HasFailed source
  pub fault_told : source.faults < source.faults_after → status ≡ ReadFault
  pub later : source.faults ≤ source.faults_after

-- No event, and a book without a transcript and without a commit. It has the number and the base of
-- the store that was opened, or 0 and 0 where none was.
pub record IsBlankOver (number serial : ℕ) (events : List Event) (book : RunBook) : Type 0 where
  pub no_events : events ≡ []
  pub first : book.first ≡ number
  pub base : book.base ≡ serial
  pub no_transcripts : book.transcripts ≡ []
  pub no_history : book.history ≡ []

abbrev pub IsBlank : List Event → RunBook → Type 0
IsBlank events book = IsBlankOver 0 0 events book

-- The source gave this script to its end, and didn't fail.
pub record GivesScript (source : Seen (Option Bytes)) (script : List SessionCommands) : Type 0 where
  pub text : Bytes
  pub gave : Consumes source.before source.after text
  pub at_end : IsAtEnd source.after
  pub reads : ReadsScript text script
  pub quiet : source.faults_after ≡ source.faults

-- one of the statuses that tell why there is no script
abbrev pub TellsOfSource : Status → Type 0
TellsOfSource (Script line rule) = Unit {0}
TellsOfSource ReadFault = Unit {0}
TellsOfSource NoMemory = Unit {0}
TellsOfSource _ = ⊥

-- The source gave no script, and the status tells why.
pub record GivesNone (source : Seen (Option Bytes)) (status : Status) : Type 0 where
  pub read : IsRead source status
  pub of_source : TellsOfSource status

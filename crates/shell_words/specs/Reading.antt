-- Where the reader stands: the sessions that the lines so far are.
use Rattle.std.specs.Prelude.{◌≡◌, ℕ, ◌<◌, ◌≤◌, true, List, [], ◌∷◌, ◌++◌, length, Option, Some, None, is_some}
use Rattle.std.specs.List.{AllByRecursion}
use Rattle.texts.specs.Bytes.{Bytes}
use Rattle.shell_words.specs.declared.limits.TheConstants.{SESSION_LIMIT}
use Rattle.texts.specs.Names.{is_user_name}
use Rattle.shell_words.specs.Rules.{script_rule_number}
use Rattle.shell_words.specs.Script.{SessionCommands, HasShortText, logout_is_last, takes_commands}
use Rattle.shell_words.specs.ScriptGrammar.{BeginsSession, SaysCommand, BeginsChunk, BreaksAt, StopsAtLine}
use Rattle.shell_words.specs.declared.script.Command.{Command}
use Rattle.shell_words.specs.declared.script.Command.TheVariants.{Chunk, Method}
use Rattle.shell_words.specs.declared.table.Opening.{Opening}
use Rattle.shell_words.specs.declared.table.Opening.TheVariants.{Chunk as OfChunk, Method as OfMethod}
use Rattle.shell_words.specs.declared.table.ScriptLine.{ScriptLine}
use Rattle.shell_words.specs.declared.table.ScriptLine.TheVariants.{Session, Opening as Opens, Command as Says}
use Rattle.shell_words.specs.declared.reading.Draft.{Draft}
use Rattle.shell_words.specs.declared.reading.Reading.{Reading}
use Rattle.shell_words.specs.declared.fault.ScriptFault.{ScriptFault}
use Rattle.shell_words.specs.declared.fault.ScriptFault.TheVariants.{Rule, NoMemory}

-- the command of a chunk that is opened so and has this text
abbrev pub command_of : Opening → Bytes → Command
command_of (OfChunk prints) text = Chunk prints text
command_of (OfMethod class_side class) text = Method class_side class text

-- The line says this. An opening makes its command of any text, so of none too.
abbrev pub LineSays : Bytes → ScriptLine → Type 0
LineSays line (Session name) = BeginsSession line name
LineSays line (Opens opening) = BeginsChunk line [] (command_of opening [])
LineSays line (Says command) = SaysCommand line command

-- the line is none of the table's
abbrev pub SaysNothing : Bytes → Type 0
SaysNothing line = (said : ScriptLine) → LineSays line said → ⊥

-- what the session asks so far
abbrev pub session_of : Draft → SessionCommands
session_of draft = record { user = draft.user; commands = draft.commands.items }

abbrev pub current_of : Option Draft → List SessionCommands
current_of None = []
current_of (Some draft) = session_of draft ∷ []

-- the sessions so far
abbrev pub sessions_of : Reading → List SessionCommands
sessions_of reading = reading.ended.items ++ current_of reading.current

-- The session so far is within a script's limits, and has fewer commands than lines were read.
pub record IsWithin (lines : ℕ) (draft : Draft) : Type 0 where
  pub user : is_user_name draft.user ≡ true
  pub count : length draft.commands.items < lines
  pub texts : AllByRecursion HasShortText draft.commands.items
  pub logout : logout_is_last draft.commands.items ≡ true

abbrev pub IsDraft : ℕ → Option Draft → Type 0
IsDraft lines None = Unit {0}
IsDraft lines (Some draft) = IsWithin lines draft

-- The sessions are within a script's limits, and there is a current one exactly where they take a
-- command.
pub record IsReading (reading : Reading) : Type 0 where
  pub sessions : length (sessions_of reading) ≤ SESSION_LIMIT
  pub draft : IsDraft reading.lines reading.current
  pub takes : takes_commands (sessions_of reading) ≡ is_some reading.current

-- a fault at the line of this number: it breaks a rule there, or memory ran out
abbrev pub FaultAt : ℕ → List SessionCommands → Bytes → List Bytes → ScriptFault → Type 0
FaultAt number script line rest (Rule at rule) =
    (at ≡ number) × BreaksAt script line rest (script_rule_number rule)
FaultAt number script line rest NoMemory = Unit {0}

-- a fault of these lines
abbrev pub FaultIn : List Bytes → ScriptFault → Type 0
FaultIn lines (Rule line rule) = StopsAtLine lines line (script_rule_number rule)
FaultIn lines NoMemory = Unit {0}

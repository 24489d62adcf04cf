-- What a Stone was opened with, and the transactions of its script.
use Rattle.std.specs.Prelude.{ℕ, Bool, ◌+◌, ◌-◌, max, List, [], take, drop, Option, Some, None}
use Rattle.std.specs.List.{fold, slice_get}
use Rattle.std.specs.FinMap.{entries}
use Rattle.gem_object.specs.gem_value.Oid.{serial_of}
use Rattle.gem_record.specs.gem_image.Image.{Image}
use Rattle.gem_record.specs.declared.record.Entry.{Entry}
use Rattle.gem_record.specs.declared.record.TxnRecord.{TxnRecord}
use Rattle.gem_record.specs.declared.mode.Mode.{Mode}
use Rattle.gem_record.specs.Stored.{Stored}
use Rattle.gem_record.specs.gem_world.World.{Setting, untouched}
use Rattle.gem_language.specs.object_programs.Laws.{begun_at}
use Rattle.gem_language.specs.Transaction.{Transaction, transaction}
use Rattle.gem_record.specs.Record.{record_of}
use Rattle.shell_words.specs.Script.{SessionCommands}
use Rattle.shell_words.specs.declared.script.Command.{Command}
use Rattle.gem_meaning.specs.Commands.{object_commands, mode_after}

-- What the Stone was opened with: an image, the number of commits in it, the script that is served,
-- what was stored, and whether pages are counted where it is stored.
pub record Opened : Type 0 where
  pub image : Image
  pub number : ℕ
  pub script : List SessionCommands
  pub stored : Stored
  pub counts_pages : Bool

-- the largest serial in the names of an image's objects, or 0 where there are none
abbrev pub largest_serial : Image → ℕ
largest_serial image = fold (λ largest entry. max largest (serial_of entry.0)) 0 (entries image)

-- the serial of the first session: one more than the largest in the opened image
unfoldable pub base_serial : Opened → ℕ
base_serial o = largest_serial o.image + 1

-- the serial in the names that this session's transactions draw
abbrev pub session_serial : Opened → (session : ℕ) → ℕ
session_serial o session = base_serial o + (session - 1)

abbrev pub commands_or_none : Option SessionCommands → List Command
commands_or_none (Some session) = session.commands
commands_or_none None = []

-- the commands of the session with this number, which counts from 1
abbrev pub commands_of : List SessionCommands → ℕ → List Command
commands_of script session = commands_or_none (slice_get script (session - 1))

-- the mode of the session before its command with this number
abbrev pub mode_at : List SessionCommands → (session command : ℕ) → Mode
mode_at script session command = mode_after (take (command - 1) (commands_of script session))

-- the commands of a transaction: from its first to its last one, whose numbers count from 1
abbrev pub entry_commands : List SessionCommands → Entry → List Command
entry_commands script e =
    drop (e.first_command - 1) (take e.last_command (commands_of script e.session))

-- An entry's transaction where ordinary objects are those of `place` and reduced-conflict objects
-- those of `view`: what it runs on, and what it says and leaves.
abbrev pub entry_setting : Opened → Entry → (place view : Image) → Setting
entry_setting o e place view =
    begun_at place view e.user (session_serial o e.session) e.first_name

abbrev pub run_at : Opened → Entry → (place view : Image) → Transaction
run_at o e place view = transaction (object_commands (entry_commands o.script e))
    (entry_setting o e place view) (untouched e.first_name)

-- the record of the entry's transaction, where place and view are this image
unfoldable pub record_on : Opened → Entry → Image → TxnRecord
record_on o e view = record_of e (entry_setting o e view view) (run_at o e view view).world

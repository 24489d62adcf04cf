-- The commands of a session that run in its transaction, and the mode that they set.
use Rattle.std.specs.Prelude.{Bool, true, false, List, Option, Some, None}
use Rattle.std.specs.List.{fold, filter_map}
use Rattle.gem_language.specs.Commands.{Command as ObjectCommand, run_chunk, install_method}
use Rattle.shell_words.specs.declared.script.Command.{Command}
use Rattle.shell_words.specs.declared.script.Command.TheVariants.{Chunk, Method, Mode as SetMode}
use Rattle.gem_record.specs.declared.mode.Mode.{Mode}
use Rattle.gem_record.specs.declared.mode.Mode.TheVariants.{Full, NoRw}

-- what a command does to objects, if it does anything to them: chunks and methods do
abbrev pub object_command : Command → Option ObjectCommand
object_command (Chunk prints text) = Some (run_chunk prints text)
object_command (Method class_side class text) = Some (install_method class_side class text)
object_command _ = None

abbrev pub object_commands : List Command → List ObjectCommand
object_commands commands = filter_map object_command commands

-- whether it is a chunk or a method
abbrev pub is_run : Command → Bool
is_run (Chunk prints text) = true
is_run (Method class_side class text) = true
is_run _ = false

-- ---- modes

-- the mode that a line `mode full_checks` sets, or `mode no_rw_checks`
abbrev pub mode_of : (full : Bool) → Mode
mode_of true = Full
mode_of false = NoRw

-- the mode after a command
abbrev pub mode_with : Mode → Command → Mode
mode_with mode (SetMode full) = mode_of full
mode_with mode _ = mode

-- The mode after these commands of a session, which begins in the full one: that of the last line
-- that sets one.
abbrev pub mode_after : List Command → Mode
mode_after commands = fold mode_with Full commands

-- Where a command stands among those of its transaction that do something to objects.
use Rattle.std.specs.Prelude.{ℕ, ◌-◌, List, length}
use Rattle.gem_meaning.specs.shell_words.Script.{SessionCommands}
use Rattle.gem_meaning.specs.gem_record.declared.record.Entry.{Entry}
use Rattle.gem_meaning.specs.Commands.{object_commands}
use Rattle.gem_meaning.specs.Opened.{entry_commands}

-- the number of chunks and methods of the transaction before the command with this number
abbrev pub runs_before : List SessionCommands → Entry → (command : ℕ) → ℕ
runs_before script e command =
    length (object_commands (entry_commands script (record e { last_command = command - 1 })))

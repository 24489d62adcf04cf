-- Which command of the meaning a command stands for.
use Rattle.gem_language.specs.Commands.{Command, run_chunk, install_method}
use Rattle.st_commands.specs.declared.command.Command.{Command as PlainCommand}
use Rattle.st_commands.specs.declared.command.Command.TheVariants.{Chunk, Method}

abbrev pub command_of : PlainCommand → Command
command_of (Chunk prints text) = run_chunk prints text
command_of (Method class_side class source) = install_method class_side class source

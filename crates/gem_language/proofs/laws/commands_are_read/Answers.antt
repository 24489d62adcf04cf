use Rattle.gem_language.proofs.CommandReadings.{command_comes, command_only}
use Rattle.gem_language.proofs.laws.commands_are_read.Goals as goal

pub returns-clause-comes : goal.returns-clause-comes
returns-clause-comes c command setting world = command_comes setting world command

pub returns-clause-only : goal.returns-clause-only
returns-clause-only c command setting world end after comes = command_only setting world command end after comes

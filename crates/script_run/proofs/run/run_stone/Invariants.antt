use Rattle.std.proofs.Common.{Some}
use Rattle.script_run.proofs.run.run_stone.Given as goal

abbrev pub ghosts-run_named : goal.ghosts-run_named
ghosts-run_named g a = record { clock = a.clock; opened = a.stone.told.opened; keeper = Some a.stone.started }

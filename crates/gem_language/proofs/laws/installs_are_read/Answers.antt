use Rattle.gem_language.proofs.CommandReadings.{install_only}
use Rattle.gem_language.proofs.laws.installs_are_read.Goals as goal

pub returns : goal.returns
returns c setting method state end after comes = install_only setting method state end after comes

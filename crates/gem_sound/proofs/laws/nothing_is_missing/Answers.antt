use Rattle.gem_sound.proofs.Kept.{there, no_zero, kernel}
use Rattle.gem_sound.proofs.laws.nothing_is_missing.Goals as goal

pub returns-clause-there : goal.returns-clause-there
returns-clause-there c = there

pub returns-clause-no_zero : goal.returns-clause-no_zero
returns-clause-no_zero c = no_zero

pub returns-clause-kernel : goal.returns-clause-kernel
returns-clause-kernel c = kernel

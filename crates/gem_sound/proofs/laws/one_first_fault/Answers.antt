use Rattle.gem_sound.proofs.Kept.{none, one}
use Rattle.gem_sound.proofs.laws.one_first_fault.Goals as goal

pub returns-clause-none : goal.returns-clause-none
returns-clause-none c = none

pub returns-clause-one : goal.returns-clause-one
returns-clause-one c = one

use Rattle.gem_world.proofs.Accesses.{access_shows}
use Rattle.gem_world.proofs.Alone.{touched_alone}
use Rattle.gem_world.proofs.laws.accesses_show_the_same.Goals as goal

pub returns-clause-touch : goal.returns-clause-touch
returns-clause-touch c = touched_alone

pub returns-clause-access : goal.returns-clause-access
returns-clause-access c = access_shows

use Rattle.gem_world.proofs.Alone.{noted, not_noted}
use Rattle.gem_world.proofs.laws.updates_are_noted.Goals as goal

pub returns-clause-made : goal.returns-clause-made
returns-clause-made c = not_noted

pub returns-clause-noted : goal.returns-clause-noted
returns-clause-noted c = noted

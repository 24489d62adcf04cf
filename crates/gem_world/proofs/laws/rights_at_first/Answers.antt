use Rattle.gem_world.proofs.Shown.{right_first}
use Rattle.gem_world.proofs.laws.rights_at_first.Goals as goal

pub returns : goal.returns
returns c image user serial first name = right_first image user serial first name

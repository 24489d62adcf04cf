use Rattle.gem_world.proofs.Touches.{three_touched}
use Rattle.gem_world.proofs.laws.what_is_asked.Goals as goal

pub returns : goal.returns
returns c = three_touched

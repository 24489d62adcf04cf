use Rattle.gem_image.proofs.Given.{greatest_given, world_given}
use Rattle.gem_image.proofs.laws.rights_on_others.Goals as goal

pub returns-clause-greatest : goal.returns-clause-greatest
returns-clause-greatest c = greatest_given

pub returns-clause-world : goal.returns-clause-world
returns-clause-world c = world_given

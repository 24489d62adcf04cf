use Rattle.gem_image.proofs.Agreement.{agree_objects, agree_none}
use Rattle.gem_image.proofs.laws.agreement.Goals as goal

pub returns-clause-objects : goal.returns-clause-objects
returns-clause-objects c = agree_objects

pub returns-clause-none : goal.returns-clause-none
returns-clause-none c = agree_none

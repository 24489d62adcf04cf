use Rattle.object_programs.proofs.Admits.{admits, admits_image}
use Rattle.object_programs.proofs.laws.guard_admits.Goals as goal

pub returns-clause-objects : goal.returns-clause-objects
returns-clause-objects c = admits

pub returns-clause-image : goal.returns-clause-image
returns-clause-image c = admits_image

use Rattle.gem_image.proofs.Given.{owner_writes, others_read}
use Rattle.gem_image.proofs.laws.rights_on_segments.Goals as goal

pub returns-clause-owner : goal.returns-clause-owner
returns-clause-owner c = owner_writes

pub returns-clause-others : goal.returns-clause-others
returns-clause-others c = others_read

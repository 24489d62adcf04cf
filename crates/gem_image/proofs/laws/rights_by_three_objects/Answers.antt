use Rattle.gem_image.proofs.Agreement.{right_stays}
use Rattle.gem_image.proofs.laws.rights_by_three_objects.Goals as goal

pub returns : goal.returns
returns c = right_stays

use Rattle.gem_object.proofs.Names.{all_names}
use Rattle.gem_object.proofs.laws.references_are_names.Goals as goal

pub returns : goal.returns
returns c = all_names

use Rattle.gem_object.proofs.Equality.{same}
use Rattle.gem_object.proofs.laws.equality_of_values.Goals as goal

pub returns : goal.returns
returns c = same

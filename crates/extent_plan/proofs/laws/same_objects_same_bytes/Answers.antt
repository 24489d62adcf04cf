use Rattle.extent_plan.proofs.Same.{same_bytes}
use Rattle.extent_plan.proofs.laws.same_objects_same_bytes.Goals as goal

pub returns : goal.returns
returns c objects others alike = same_bytes objects others alike

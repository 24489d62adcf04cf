use Rattle.extent_plan.proofs.Sharing.{sharing_from}
use Rattle.extent_plan.proofs.laws.leaves_may_stay.Goals as goal

pub returns : goal.returns
returns c image since old keeps stored = sharing_from image since old keeps stored

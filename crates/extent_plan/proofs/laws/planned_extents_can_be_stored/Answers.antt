use Rattle.extent_plan.proofs.Storing.{planned_stored}
use Rattle.extent_plan.proofs.laws.planned_extents_can_be_stored.Goals as goal

pub returns : goal.returns
returns c kept old page around extent pieces planned all =
    planned_stored kept old page around extent pieces planned all

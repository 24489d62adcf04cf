use Rattle.extent_plan.proofs.Lays.{planned_laid}
use Rattle.extent_plan.proofs.laws.plans_lie.Goals as goal

pub returns : goal.returns
returns c file kept old page around extent pieces directory plan few lie inside first stand =
    planned_laid file kept old page around extent pieces directory plan few lie inside first stand

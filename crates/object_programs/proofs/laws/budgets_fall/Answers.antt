use Rattle.object_programs.specs.Local.{nothing}
use Rattle.object_programs.specs.Laws.{Falls}
use Rattle.object_programs.specs.Steps.{steps_program}
use Rattle.object_programs.proofs.Kept.{kept}
use Rattle.object_programs.proofs.Falling as falling
use Rattle.object_programs.proofs.laws.budgets_fall.Goals as goal

pub returns : goal.returns
returns c steps setting world budget =
    kept setting Falls (falling.budgets_fall setting) (steps_program steps)
    (record { world = world; budget = budget; local = nothing (Unit {0}) })

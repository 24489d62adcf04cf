use Rattle.object_programs.specs.Local.{nothing}
use Rattle.object_programs.specs.Steps.{steps_program}
use Rattle.object_programs.proofs.Kept.{kept}
use Rattle.object_programs.proofs.Reach.{StaysInReach, reach_stays}
use Rattle.object_programs.proofs.laws.names_are_drawn.Goals as goal

pub returns : goal.returns
returns c steps setting world budget reach =
    kept setting (λ w b later left. StaysInReach setting w later) (reach_stays setting) (steps_program steps)
    (record { world = world; budget = budget; local = nothing (Unit {0}) }) reach

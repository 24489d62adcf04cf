use Rattle.object_programs.specs.Local.{nothing}
use Rattle.object_programs.specs.Steps.{steps_program}
use Rattle.object_programs.proofs.Kept.{kept}
use Rattle.object_programs.proofs.Falling.{GrowTouches, touches_stay}
use Rattle.object_programs.proofs.laws.touches_grow.Goals as goal

pub returns : goal.returns
returns c steps setting world budget =
    kept setting (λ w b later left. GrowTouches w later) (touches_stay setting) (steps_program steps)
    (record { world = world; budget = budget; local = nothing (Unit {0}) })

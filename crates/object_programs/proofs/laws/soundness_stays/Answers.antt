use Rattle.object_programs.specs.Local.{nothing}
use Rattle.object_programs.specs.Steps.{steps_program}
use Rattle.object_programs.proofs.Kept.{kept}
use Rattle.object_programs.proofs.Objects.{StaysSound, soundness_stays}
use Rattle.object_programs.proofs.laws.soundness_stays.Goals as goal

pub returns : goal.returns
returns c steps setting world budget sound =
    kept setting (λ w b later left. StaysSound setting w later) (soundness_stays setting) (steps_program steps)
    (record { world = world; budget = budget; local = nothing (Unit {0}) }) sound

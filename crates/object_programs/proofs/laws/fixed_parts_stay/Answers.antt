use Rattle.object_programs.specs.Local.{nothing}
use Rattle.object_programs.specs.Steps.{steps_program}
use Rattle.object_programs.proofs.Kept.{kept}
use Rattle.object_programs.proofs.Objects.{StaysFixed, parts_stay}
use Rattle.object_programs.proofs.laws.fixed_parts_stay.Goals as goal

pub returns : goal.returns
returns c steps setting world budget free =
    (kept setting (λ w b later left. StaysFixed setting w later) (parts_stay setting) (steps_program steps)
    (record { world = world; budget = budget; local = nothing (Unit {0}) }) free).1

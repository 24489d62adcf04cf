use Rattle.object_programs.specs.Local.{nothing}
use Rattle.object_programs.specs.Steps.{steps_program}
use Rattle.object_programs.proofs.Kept.{kept}
use Rattle.object_programs.proofs.Told.{StaysTold, told_stays, told_first}
use Rattle.object_programs.proofs.laws.updates_tell_shared.Goals as goal

pub returns-clause-stays : goal.returns-clause-stays
returns-clause-stays c steps setting world budget tells =
    kept setting (λ w b later left. StaysTold setting w later) (told_stays setting) (steps_program steps)
    (record { world = world; budget = budget; local = nothing (Unit {0}) }) tells

pub returns-clause-begins : goal.returns-clause-begins
returns-clause-begins c setting = told_first setting

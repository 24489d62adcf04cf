use Rattle.object_programs.specs.Local.{nothing}
use Rattle.object_programs.specs.Steps.{steps_program}
use Rattle.object_programs.proofs.Frame as frames
use Rattle.object_programs.proofs.laws.frame.Goals as goal

pub returns : goal.returns
returns c steps setting world budget other stays agree =
    frames.frame setting other stays (steps_program steps)
    (record { world = world; budget = budget; local = nothing (Unit {0}) }) agree

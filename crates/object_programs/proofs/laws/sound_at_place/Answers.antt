use Rattle.object_programs.proofs.AtPlace.{sound_at}
use Rattle.object_programs.proofs.laws.sound_at_place.Goals as goal

pub returns : goal.returns
returns c place view user serial first stays placed viewed =
    sound_at place view user serial first stays placed viewed

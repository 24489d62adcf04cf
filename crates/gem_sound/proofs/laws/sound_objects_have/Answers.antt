use Rattle.gem_sound.proofs.Kept.{segment, names}
use Rattle.gem_sound.proofs.laws.sound_objects_have.Goals as goal

pub returns-clause-segment : goal.returns-clause-segment
returns-clause-segment c = segment

pub returns-clause-names : goal.returns-clause-names
returns-clause-names c = names

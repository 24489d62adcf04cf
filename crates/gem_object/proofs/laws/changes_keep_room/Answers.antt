use Rattle.gem_object.proofs.Rooms.{slots_kept, size_kept}
use Rattle.gem_object.proofs.laws.changes_keep_room.Goals as goal

pub returns-clause-slots : goal.returns-clause-slots
returns-clause-slots c = slots_kept

pub returns-clause-size : goal.returns-clause-size
returns-clause-size c = size_kept

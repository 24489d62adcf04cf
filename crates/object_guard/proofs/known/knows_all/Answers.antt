use Rattle.object_guard.proofs.Pieces.{owner_of}
use Rattle.object_guard.proofs.known.knows_all.Goals as goal

pub is_there_at-requires : goal.is_there_at-requires
is_there_at-requires g c = owner_of c.args.body.now c.in-Segment.rights c.in-Segment.is c.requires

use Rattle.object_guard.proofs.Pieces.{owner_of}
use Rattle.object_guard.proofs.fitting.named_fit.Goals as goal

pub returns-in-None : goal.returns-in-None
returns-in-None g c = absurd (c.in-None.ensures (owner_of c.args.body.now c.in-Segment.rights c.in-Segment.is c.requires))

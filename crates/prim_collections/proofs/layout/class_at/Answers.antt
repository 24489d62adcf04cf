use Rattle.prim_parts.proofs.Walks.{class_known}
use Rattle.prim_collections.proofs.layout.class_at.Goals as goal

pub returns-clause-there : goal.returns-clause-there
returns-clause-there g c = class_known (g.O.Objects.seen c.args.objects.now) c.sound.ensures _ _ c.in-Some.ensures

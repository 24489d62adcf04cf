use Rattle.prim_parts.proofs.Walks.{class_known}
use Rattle.prim_parts.proofs.kinds.found_class.Goals as goal

pub returns-clause-there : goal.returns-clause-there
returns-clause-there g c = class_known (g.O.Objects.seen c.know.new.self) c.sound.ensures _ _ c.in-Some.ensures

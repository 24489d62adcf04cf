use Rattle.look_up_cache.proofs.Keeps.{unit_known}
use Rattle.look_up_cache.proofs.known.KnownObjects.take_unit.Goals as goal

pub invariant_of-self : goal.invariant_of-self
invariant_of-self g c = unit_known g.T.MethodCodeKept.is_of c.self.inside.memory
    (g.O.Objects.seen c.self.inside.objects) (g.O.Objects.seen c.tick.new.self)
    c.self.inside.holds c.in-Ok.ensures c.self.invariant

use Rattle.look_up_cache.proofs.Keeps.{own_known}
use Rattle.look_up_cache.proofs.objects.KnownObjectsObjects.own.Goals as goal

pub invariant_of-self : goal.invariant_of-self
invariant_of-self g c = own_known g.T.MethodCodeKept.is_of c.self.inside.memory
    (g.O.Objects.seen c.self.inside.objects) (g.O.Objects.seen c.own-result.new.self)
    c.self.inside.holds c.still-self-inside.result c.own-result.result c.still-self-inside.ensures c.own-result.ensures c.self.invariant

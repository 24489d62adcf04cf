use Rattle.look_up_cache.proofs.Keeps.{kind_known}
use Rattle.look_up_cache.proofs.objects.KnownObjectsObjects.know.Goals as goal

pub invariant_of-self : goal.invariant_of-self
invariant_of-self g c = kind_known g.T.MethodCodeKept.is_of c.self.inside.memory
    (g.O.Objects.seen c.self.inside.objects) (g.O.Objects.seen c.know-result.new.self)
    c.args.oid c.self.inside.holds c.still-self-inside.result c.know-result.result c.still-self-inside.ensures c.know-result.ensures c.self.invariant

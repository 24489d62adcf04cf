use Rattle.look_up_cache.proofs.Keeps.{names_known}
use Rattle.look_up_cache.proofs.objects.KnownObjectsObjects.names.Goals as goal

pub invariant_of-self : goal.invariant_of-self
invariant_of-self g c = names_known g.T.MethodCodeKept.is_of c.self.inside.memory
    (g.O.Objects.seen c.self.inside.objects) (g.O.Objects.seen c.names-result.new.self)
    c.args.count c.self.inside.holds c.still-self-inside.result c.names-result.result c.still-self-inside.ensures c.names-result.ensures c.self.invariant

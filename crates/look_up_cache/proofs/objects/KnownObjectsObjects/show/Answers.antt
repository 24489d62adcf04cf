use Rattle.look_up_cache.proofs.Keeps.{show_known}
use Rattle.look_up_cache.proofs.objects.KnownObjectsObjects.show.Goals as goal

pub invariant_of-self : goal.invariant_of-self
invariant_of-self g c = show_known g.T.MethodCodeKept.is_of c.self.inside.memory
    (g.O.Objects.seen c.self.inside.objects) (g.O.Objects.seen c.show-result.new.self)
    c.args.text.now c.self.inside.holds c.still-self-inside.result c.show-result.result c.still-self-inside.ensures c.show-result.ensures c.self.invariant

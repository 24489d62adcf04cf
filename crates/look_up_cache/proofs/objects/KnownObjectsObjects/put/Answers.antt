use Rattle.look_up_cache.proofs.Keeps.{put_known}
use Rattle.look_up_cache.proofs.objects.KnownObjectsObjects.put.Goals as goal

pub invariant_of-self : goal.invariant_of-self
invariant_of-self g c = put_known g.T.MethodCodeKept.is_of c.self.inside.memory
    (g.O.Objects.seen c.self.inside.objects) (g.O.Objects.seen c.put-result.new.self)
    c.args.oid c.args.body c.self.inside.holds c.stays-held.result c.still-self-inside.result c.put-result.result
    c.stays-held.ensures.held c.stays-held.ensures.body c.still-self-inside.ensures c.put-result.ensures c.self.invariant

use Rattle.look_up_cache.proofs.Keeps.{room_known}
use Rattle.look_up_cache.proofs.objects.KnownObjectsObjects.room.Goals as goal

pub invariant_of-self : goal.invariant_of-self
invariant_of-self g c = room_known g.T.MethodCodeKept.is_of c.self.inside.memory
    (g.O.Objects.seen c.self.inside.objects) (g.O.Objects.seen c.room-result.new.self)
    c.args.slots c.self.inside.holds c.still-self-inside.result c.room-result.result c.still-self-inside.ensures c.room-result.ensures c.self.invariant

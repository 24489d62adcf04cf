use Rattle.gem_object.specs.Edits.{with_slot}
use Rattle.look_up_cache.proofs.Keeps.{within_known}
use Rattle.look_up_cache.proofs.Edits.{with_slot_lasts}
use Rattle.look_up_cache.proofs.objects.KnownObjectsObjects.set_slot_within.Goals as goal

pub invariant_of-self : goal.invariant_of-self
invariant_of-self g c = within_known g.T.MethodCodeKept.is_of c.self.inside.memory
    (g.O.Objects.seen c.self.inside.objects) (g.O.Objects.seen c.set_slot_within.new.self)
    c.args.oid (with_slot c.args.at c.args.value) (with_slot_lasts c.args.at c.args.value)
    c.self.inside.holds c.set_slot_within.result c.set_slot_within.ensures.put c.set_slot_within.ensures.unchanged c.self.invariant

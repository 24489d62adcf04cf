use Rattle.running_objects.specs.Seen.{Seen}
use Rattle.running_objects.specs.Acted.{Edited}
use Rattle.look_up_cache.specs.Memory.{founds}
use Rattle.gem_object.specs.Edits.{without_slot}
use Rattle.look_up_cache.proofs.Keeps.{as_seen, edit_known}
use Rattle.look_up_cache.proofs.Edits.{without_slot_lasts}
use Rattle.look_up_cache.proofs.objects.KnownObjectsObjects.remove_slot.Goals as goal

pub invariant_of-self : goal.invariant_of-self
invariant_of-self g c = edit_known g.T.MethodCodeKept.is_of c.self.inside.memory
    (g.O.Objects.seen c.self.inside.objects) (g.O.Objects.seen c.remove_slot-result.new.self)
    c.args.oid (without_slot c.args.at) (without_slot_lasts c.args.at) c.self.inside.holds c.is_there-held.result c.still-self-inside.result
    c.remove_slot-result.result c.is_there-held.ensures.held c.is_there-held.ensures.there c.still-self-inside.ensures c.remove_slot-result.ensures c.self.invariant

pub returns : goal.returns
returns g c = as_seen g.O.Objects.seen (λ (before : Seen). Edited c.args.oid (without_slot c.args.at) before c.remove_slot-result.result
    (g.O.Objects.seen c.remove_slot-result.new.self)) c.self.inside.objects (founds c.self.inside.memory.methods.items)
    c.args.self.now c.self.view_is c.remove_slot-result.ensures

use Rattle.running_objects.specs.Seen.{Seen}
use Rattle.running_objects.specs.Acted.{Edited}
use Rattle.look_up_cache.specs.Memory.{founds}
use Rattle.gem_object.specs.Edits.{with_slot_more}
use Rattle.look_up_cache.proofs.Keeps.{as_seen, edit_known}
use Rattle.look_up_cache.proofs.Edits.{with_slot_more_lasts}
use Rattle.look_up_cache.proofs.objects.KnownObjectsObjects.insert_slot.Goals as goal

pub invariant_of-self : goal.invariant_of-self
invariant_of-self g c = edit_known g.T.MethodCodeKept.is_of c.self.inside.memory
    (g.O.Objects.seen c.self.inside.objects) (g.O.Objects.seen c.insert_slot-result.new.self)
    c.args.oid (with_slot_more c.args.at c.args.value) (with_slot_more_lasts c.args.at c.args.value) c.self.inside.holds c.is_there-held.result c.still-self-inside.result
    c.insert_slot-result.result c.is_there-held.ensures.held c.is_there-held.ensures.there c.still-self-inside.ensures c.insert_slot-result.ensures c.self.invariant

pub returns : goal.returns
returns g c = as_seen g.O.Objects.seen (λ (before : Seen). Edited c.args.oid (with_slot_more c.args.at c.args.value) before c.insert_slot-result.result
    (g.O.Objects.seen c.insert_slot-result.new.self)) c.self.inside.objects (founds c.self.inside.memory.methods.items)
    c.args.self.now c.self.view_is c.insert_slot-result.ensures

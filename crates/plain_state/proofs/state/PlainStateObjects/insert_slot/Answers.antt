use Rattle.std.proofs.Common.{subst}
use Rattle.gem_object.specs.Edits.{with_slot_more}
use Rattle.plain_state.specs.Room.{SeenWithRoom}
use Rattle.running_objects.specs.Acted.{Edited}
use Rattle.plain_state.proofs.Sound.{edited_or_same}
use Rattle.plain_state.proofs.state.PlainStateObjects.insert_slot.Goals as goal

pub invariant_of-self : goal.invariant_of-self
invariant_of-self c = edited_or_same c.args.oid (with_slot_more c.args.at c.args.value) c.self.inside.parts.seen
    c.insert_slot.new.self.seen c.insert_slot.result c.self.invariant
    c.insert_slot.ensures.edited c.insert_slot.ensures.absent

pub returns : goal.returns
returns c = subst (λ (s : SeenWithRoom). Edited c.args.oid (with_slot_more c.args.at c.args.value) s.seen c.insert_slot.result c.insert_slot.new.self.seen)
    c.self.view_is c.insert_slot.ensures.edited

use Rattle.std.proofs.Common.{subst}
use Rattle.gem_object.specs.Edits.{without_slot}
use Rattle.plain_state.specs.Room.{SeenWithRoom}
use Rattle.running_objects.specs.Acted.{Edited}
use Rattle.plain_state.proofs.Sound.{edited_or_same}
use Rattle.plain_state.proofs.state.PlainStateObjects.remove_slot.Goals as goal

pub invariant_of-self : goal.invariant_of-self
invariant_of-self c = edited_or_same c.args.oid (without_slot c.args.at) c.self.inside.parts.seen
    c.remove_slot.new.self.seen c.remove_slot.result c.self.invariant
    c.remove_slot.ensures.edited c.remove_slot.ensures.absent

pub returns : goal.returns
returns c = subst (λ (s : SeenWithRoom). Edited c.args.oid (without_slot c.args.at) s.seen c.remove_slot.result c.remove_slot.new.self.seen)
    c.self.view_is c.remove_slot.ensures.edited

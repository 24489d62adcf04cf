use Rattle.plain_state.specs.AtHand.{over}
use Rattle.plain_state.specs.Edit.{with_slot_put}
use Rattle.plain_state.proofs.AtHand.{spots_edited}
use Rattle.plain_state.proofs.shown.Shown.put_slot.Goals as goal

pub invariant_of-self : goal.invariant_of-self
invariant_of-self c = rw c.put_slot.ensures
    (spots_edited (over c.self.inside.place c.self.inside.view c.self.inside.changes) c.self.inside.hand
    c.args.number (with_slot_put c.args.at c.args.value) c.self.invariant)

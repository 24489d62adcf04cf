use Rattle.plain_state.specs.AtHand.{over}
use Rattle.plain_state.specs.Edit.{with_slot_put}
use Rattle.plain_state.specs.Overlay.{changed}
use Rattle.plain_state.proofs.AtHand.{spots_edited, spots_either}
use Rattle.plain_state.proofs.shown.Shown.put_slot_within.Goals as goal

pub invariant_of-self : goal.invariant_of-self
invariant_of-self c =
    let layers = over c.self.inside.place c.self.inside.view c.self.inside.changes in
    spots_either c.put_slot_within.result layers c.self.inside.hand c.put_slot_within.new.self
    (changed c.args.number (with_slot_put c.args.at c.args.value) c.self.inside.changes)
    c.put_slot_within.ensures.put c.put_slot_within.ensures.unchanged
    (spots_edited layers c.self.inside.hand c.args.number (with_slot_put c.args.at c.args.value) c.self.invariant)
    c.self.invariant

use Rattle.plain_state.specs.AtHand.{over}
use Rattle.plain_state.specs.Edit.{edited_by}
use Rattle.plain_state.specs.Overlay.{changed}
use Rattle.plain_state.proofs.AtHand.{spots_edited, spots_either}
use Rattle.plain_state.proofs.shown.Shown.edit.Goals as goal

pub invariant_of-self : goal.invariant_of-self
invariant_of-self c =
    let layers = over c.self.inside.place c.self.inside.view c.self.inside.changes in
    spots_either c.edit.result layers c.self.inside.hand c.edit.new.self
    (changed c.args.number (edited_by c.args.edit) c.self.inside.changes) c.edit.ensures.edited c.edit.ensures.unchanged
    (spots_edited layers c.self.inside.hand c.args.number (edited_by c.args.edit) c.self.invariant) c.self.invariant

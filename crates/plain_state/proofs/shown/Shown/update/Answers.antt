use Rattle.plain_state.specs.AtHand.{over}
use Rattle.plain_state.specs.Updates.{with_update}
use Rattle.plain_state.specs.Overlay.{changed}
use Rattle.plain_state.proofs.AtHand.{spots_edited, spots_either}
use Rattle.plain_state.proofs.shown.Shown.update.Goals as goal

pub invariant_of-self : goal.invariant_of-self
invariant_of-self c =
    let layers = over c.self.inside.place c.self.inside.view c.self.inside.changes in
    spots_either c.update.result layers c.self.inside.hand c.update.new.self
    (changed c.args.number (with_update c.args.update) c.self.inside.changes)
    c.update.ensures.updated c.update.ensures.unchanged
    (spots_edited layers c.self.inside.hand c.args.number (with_update c.args.update) c.self.invariant) c.self.invariant

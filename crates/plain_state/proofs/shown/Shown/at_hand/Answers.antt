use Rattle.std.proofs.Common.{◌≡◌, ◌∙◌, ap, sym, Some}
use Rattle.std.specs.Arc.{arc_value}
use Rattle.plain_state.specs.declared.at_hand.Spot.TheVariants.{Before}
use Rattle.plain_state.specs.AtHand.{spot_at}
use Rattle.plain_state.proofs.AtHand.{before_shown}
use Rattle.plain_state.proofs.shown.Shown.at_hand.Goals as goal

pub returns-in-Before : goal.returns-in-Before
returns-in-Before c =
    let there : spot_at c.self.inside.hand c.args.number ≡ Some (Before c.in-Before.object c.in-Before.field-1) =
    sym c.in_ok-at.ensures ∙ ap Some c.in-Before.is in
    rw (← c.self.view_is, c.deref.ensures)
    (before_shown _ c.args.number (arc_value c.in-Before.object) c.in-Before.field-1
    (c.self.invariant c.args.number (Before c.in-Before.object c.in-Before.field-1) there))

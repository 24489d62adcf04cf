use Rattle.std.proofs.Common.{◌≡◌, ◌∙◌, sym, ap, Some}
use Rattle.plain_state.specs.declared.at_hand.Spot.TheVariants.{Before}
use Rattle.plain_state.specs.AtHand.{spot_at}
use Rattle.plain_state.proofs.shown.Shown.are_shared.Goals as goal

pub returns-in-Before : goal.returns-in-Before
returns-in-Before c =
    let spot = Before c.in-Before.field-0 c.in-Before.shared in
    let there : spot_at c.self.inside.hand c.number.result ≡ Some spot =
    sym c.in-Some.ensures ∙ ap Some c.in-Before.is in
    let is = c.self.invariant c.number.result spot there in
    rw (← c.self.view_is, ← c.number.ensures.number) (sym is.shared_in_both)

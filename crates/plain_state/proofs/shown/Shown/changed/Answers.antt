use Rattle.std.proofs.Common.{◌≡◌, ◌∙◌, sym, ap, Some}
use Rattle.plain_state.specs.declared.at_hand.Spot.TheVariants.{Before}
use Rattle.plain_state.specs.AtHand.{spot_at}
use Rattle.plain_state.proofs.shown.Shown.changed.Goals as goal

pub returns-in-Before : goal.returns-in-Before
returns-in-Before c =
    let spot = Before c.in-Before.field-0 c.in-Before.field-1 in
    let there : spot_at c.self.inside.hand c.args.number ≡ Some spot =
    sym c.in-Some.ensures ∙ ap Some c.in-Before.is in
    let is = c.self.invariant c.args.number spot there in
    rw (← c.self.view_is) (sym is.absent)

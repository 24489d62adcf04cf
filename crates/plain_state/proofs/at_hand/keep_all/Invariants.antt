use Rattle.std.proofs.Common.{◌≡◌, ◌+◌, ℕ, Some}
use Rattle.plain_state.specs.AtHand.{spot_at, IsLeft}
use Rattle.plain_state.specs.declared.at_hand.Spot.{Spot}
use Rattle.plain_state.proofs.at_hand.keep_all.Given as goal

abbrev pub invariant-loop-step : goal.invariant-loop-step
invariant-loop-step l = (other : ℕ) (kept : Spot) → spot_at l.hand other ≡ Some kept
    → IsLeft l.fn.first (l.fn.first + l.step) other kept (spot_at l.fn.hand other)

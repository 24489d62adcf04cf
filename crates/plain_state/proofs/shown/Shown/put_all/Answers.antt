use Rattle.std.proofs.Common.{◌≡◌, ◌+◌, ℕ, Some, length, subst, rules}
use Rattle.plain_state.specs.declared.at_hand.Spot.{Spot}
use Rattle.plain_state.specs.AtHand.{over, spot_at, IsLeft}
use Rattle.plain_state.proofs.AtHand.{spots_all}
use Rattle.plain_state.proofs.shown.Shown.put_all.Goals as goal

pub invariant_of-self-2 : goal.invariant_of-self-2
invariant_of-self-2 c =
    let count : c.len-count.result ≡ length c.args.objects.items = search rules in
    rw c.in_ok-put_all.ensures.put
    (spots_all (over c.self.inside.place c.self.inside.view c.self.inside.changes) c.self.inside.hand
    c.keep_all.new.hand c.args.first c.args.objects.items c.self.invariant
    (subst (λ (n : ℕ). (other : ℕ) (kept : Spot) → spot_at c.keep_all.new.hand other ≡ Some kept
    → IsLeft c.args.first (c.args.first + n) other kept (spot_at c.self.inside.hand other))
    count c.keep_all.ensures))

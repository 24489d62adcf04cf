use Rattle.std.proofs.Common.{◌≡◌, take, slice_get, ap, ◌∙◌, arith}
use Rattle.rc_counter_bag.specs.Bag.{replayed}
use Rattle.rc_counter_bag.proofs.Refusals.{refused_at}
use Rattle.rc_counter_bag.proofs.laws.first_refusal.Goals as goal

pub returns : goal.returns
returns g c = λ view place updates at e.
    let r = refused_at g.T.Ord.cmp 0 updates place at e in
    let here : at ≡ r.place = omega (arith, r.counted) in
    (r.before, r.item, ap (λ k. replayed g.T.Ord.cmp 0 (take k updates) place) here ∙ r.replays, ap (slice_get updates) here ∙ r.removes, r.missing)

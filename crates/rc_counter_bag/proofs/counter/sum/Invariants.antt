use Rattle.std.proofs.Common.{◌≡◌, ◌*◌, ◌^◌, take, pos, ◌+ℤ◌, neg_ℤ, ◌≤ℤ◌, fold}
use Rattle.rc_counter_bag.proofs.counter.sum.Given as goal

abbrev pub invariant-loop-by : goal.invariant-loop-by
invariant-loop-by l =
    (l.sum ≡ fold ◌+ℤ◌ (pos 0) (take l.by-index l.updates)) × (neg_ℤ (pos (2 ^ 63 * l.by-index)) ≤ℤ l.sum) × (l.sum ≤ℤ pos (2 ^ 63 * l.by-index))

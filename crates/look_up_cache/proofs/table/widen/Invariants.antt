use Rattle.std.proofs.Common.{◌≡◌, ℕ, ◌+◌, ◌-◌, length, Some}
use Rattle.look_up_cache.specs.Table.{held_at}
use Rattle.look_up_cache.proofs.table.widen.Given as goal

abbrev pub invariant-loop-places : goal.invariant-loop-places
invariant-loop-places g l = (place : ℕ) (x : g.row.X.Denot) → held_at l.places.items place ≡ Some x
    → held_at l.fn.places.items place ≡ Some x

abbrev pub decreases-loop-places : goal.decreases-loop-places
decreases-loop-places g l = l.at + 1 - length l.places.items

use Rattle.std.proofs.Common.{◌≡◌, ℕ, ◌<◌, ◌-◌, length, None}
use Rattle.look_up_cache.specs.Table.{held_at}
use Rattle.look_up_cache.proofs.table.empty_all.Given as goal

abbrev pub invariant-places : goal.invariant-places
invariant-places g l = (place : ℕ) → place < l.at → held_at l.places.items place ≡ None

abbrev pub decreases-places : goal.decreases-places
decreases-places g l = length l.places.items - l.at

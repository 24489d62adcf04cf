use Rattle.std.proofs.Common.{◌≡◌, ◌^◌, ◌-◌, min, take}
use Rattle.std.specs.List.{sum_by}
use Rattle.gem_object.specs.Sizes.{value_size}
use Rattle.gem_object.proofs.size.queue_size.Given as goal

-- the sum so far is that of the items before this place
abbrev pub invariant-loop-at : goal.invariant-loop-at
invariant-loop-at l = l.sum ≡ min (sum_by value_size (take l.at l.queue.items)) (2 ^ 64 - 1)

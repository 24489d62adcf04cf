use Rattle.std.proofs.Common.{◌≡◌, ◌^◌, ◌-◌, min, take}
use Rattle.std.specs.List.{sum_by}
use Rattle.gem_object.specs.Sizes.{pair_size}
use Rattle.gem_object.proofs.size.pairs_size.Given as goal

-- the sum so far is that of the pairs before this place
abbrev pub invariant-loop-at : goal.invariant-loop-at
invariant-loop-at l = l.sum ≡ min (sum_by pair_size (take l.at l.pairs)) (2 ^ 64 - 1)

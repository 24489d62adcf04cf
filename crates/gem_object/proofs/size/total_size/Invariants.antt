use Rattle.std.proofs.Common.{◌≡◌, ◌^◌, ◌-◌, min, take}
use Rattle.std.specs.List.{sum_by}
use Rattle.gem_object.proofs.size.total_size.Given as goal

-- the sum so far is that of the items before this one
abbrev pub invariant-loop-item : goal.invariant-loop-item
invariant-loop-item g l =
    l.sum ≡ min (sum_by g.T.Encoded.encoded_size (take l.item-index l.items)) (2 ^ 64 - 1)

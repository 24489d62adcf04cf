use Rattle.std.proofs.Common.{◌≡◌, take}
use Rattle.rc_counter_bag.specs.Bag.{size}
use Rattle.rc_counter_bag.proofs.pairs.size.Given as goal

abbrev pub invariant-loop-pair : goal.invariant-loop-pair
invariant-loop-pair g l = l.sum ≡ size (take l.pair-index l.pairs)

use Rattle.std.proofs.Common.{◌≡◌, length, fold}
use Rattle.std.specs.List.{flat_map}
use Rattle.extent_pages.specs.Extent.{larger_serial}
use Rattle.extent_pages.proofs.count.largest_serial.Given as goal

abbrev pub invariant-loop-leaf : goal.invariant-loop-leaf
invariant-loop-leaf l = fold larger_serial l.largest (flat_map (λ leaf. leaf.objects) l.rest)
    ≡ fold larger_serial 0 (flat_map (λ leaf. leaf.objects) l.leaves)

abbrev pub decreases-loop-leaf : goal.decreases-loop-leaf
decreases-loop-leaf l = length l.rest

use Rattle.std.proofs.Common.{◌≡◌, length, fold}
use Rattle.extent_pages.specs.Extent.{larger_serial}
use Rattle.extent_pages.proofs.count.largest_with.Given as goal

abbrev pub invariant-loop-object : goal.invariant-loop-object
invariant-loop-object l = fold larger_serial l.largest l.rest ≡ fold larger_serial l.serial l.objects

abbrev pub decreases-loop-object : goal.decreases-loop-object
decreases-loop-object l = length l.rest

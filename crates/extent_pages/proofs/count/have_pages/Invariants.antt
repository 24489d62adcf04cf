use Rattle.std.proofs.Common.{◌≡◌, ◌==◌, length}
use Rattle.std.specs.List.{flat_map}
use Rattle.extent_pages.proofs.count.have_pages.Given as goal

-- what is left agrees with the rest where the whole agrees with all
abbrev pub invariant-loop-leaf : goal.invariant-loop-leaf
invariant-loop-leaf l = (l.left == length (flat_map (λ leaf. leaf.pages) l.rest))
    ≡ (l.count == length (flat_map (λ leaf. leaf.pages) l.leaves))

abbrev pub decreases-loop-leaf : goal.decreases-loop-leaf
decreases-loop-leaf l = length l.rest

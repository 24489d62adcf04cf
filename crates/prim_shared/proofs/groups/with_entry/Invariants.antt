use Rattle.std.proofs.Common.{◌≡◌, ◌++◌, length}
use Rattle.std.specs.Ordering.{nat_cmp}
use Rattle.std.specs.Cmp.Lexicographic.{slice_cmp}
use Rattle.std.specs.BTreeMap.{insert_entry}
use Rattle.prim_shared.proofs.groups.with_entry.Given as goal

-- what was copied, and what the rest becomes, are what all become
abbrev pub invariant-loop-split : goal.invariant-loop-split
invariant-loop-split l = l.made.items ++ insert_entry (slice_cmp nat_cmp) l.rest l.group l.right
    ≡ insert_entry (slice_cmp nat_cmp) l.entries l.group l.right

abbrev pub decreases-loop-split : goal.decreases-loop-split
decreases-loop-split l = length l.rest

use Rattle.std.proofs.Common.{◌≡◌, ◌++◌, bytes_eq, length}
use Rattle.std.specs.Map.{remove_entry}
use Rattle.prim_shared.proofs.groups.without_entry.Given as goal

-- what was copied, and what the rest becomes, are what all become
abbrev pub invariant-loop-split : goal.invariant-loop-split
invariant-loop-split l = l.made.items ++ remove_entry (bytes_eq l.group) l.rest
    ≡ remove_entry (bytes_eq l.group) l.entries

abbrev pub decreases-loop-split : goal.decreases-loop-split
decreases-loop-split l = length l.rest

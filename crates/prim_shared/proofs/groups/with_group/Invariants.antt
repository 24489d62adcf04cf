use Rattle.std.proofs.Common.{◌≡◌, ◌++◌, length}
use Rattle.prim_rules.specs.Groups.{with_group}
use Rattle.prim_shared.proofs.groups.with_group.Given as goal

-- what was copied, and what the rest becomes, are what all become
abbrev pub invariant-loop-split : goal.invariant-loop-split
invariant-loop-split l = l.made.items ++ with_group l.group l.rest ≡ with_group l.group l.groups

abbrev pub decreases-loop-split : goal.decreases-loop-split
decreases-loop-split l = length l.rest

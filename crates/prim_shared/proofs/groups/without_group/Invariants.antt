use Rattle.std.proofs.Common.{◌≡◌, ◌++◌, length}
use Rattle.prim_rules.specs.Groups.{without_group}
use Rattle.prim_shared.proofs.groups.without_group.Given as goal

-- what was copied, and what the rest becomes, are what all become
abbrev pub invariant-loop-split : goal.invariant-loop-split
invariant-loop-split l = l.made.items ++ without_group l.group l.rest ≡ without_group l.group l.groups

abbrev pub decreases-loop-split : goal.decreases-loop-split
decreases-loop-split l = length l.rest

use Rattle.std.proofs.Common.{◌≡◌, ◌++◌, take}
use Rattle.prim_shared.proofs.groups.push_groups.Given as goal

-- the groups before this one are copied
abbrev pub invariant-loop-group : goal.invariant-loop-group
invariant-loop-group l = l.made.items ≡ l.initial.made.items ++ take l.group-index l.groups

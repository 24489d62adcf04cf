use Rattle.std.proofs.Common.{◌≡◌, ◌++◌, take}
use Rattle.prim_parts.proofs.classes.push_copies.Given as goal

-- the names before this one are added
abbrev pub invariant-loop-name : goal.invariant-loop-name
invariant-loop-name l = l.names.items ≡ l.initial.names.items ++ take l.name-index l.more

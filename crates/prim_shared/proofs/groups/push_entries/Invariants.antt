use Rattle.std.proofs.Common.{◌≡◌, ◌++◌, take}
use Rattle.prim_shared.proofs.groups.push_entries.Given as goal

-- the entries before this one are copied
abbrev pub invariant-loop-entry : goal.invariant-loop-entry
invariant-loop-entry l = l.made.items ≡ l.initial.made.items ++ take l.entry-index l.entries

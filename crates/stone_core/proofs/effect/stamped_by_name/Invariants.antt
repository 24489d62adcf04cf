use Rattle.std.proofs.Common.{◌≡◌, ◌++◌}
use Rattle.stone_core.proofs.effect.stamped_by_name.Given as goal

-- the entries so far and those that come are all
abbrev pub invariant-loop-entry : goal.invariant-loop-entry
invariant-loop-entry l = l.entries.items ++ l.entry-iterator ≡ l.initial.entry-iterator

use Rattle.std.proofs.Common.{◌≡◌, ◌++◌, drop}
use Rattle.kept_set.specs.Worklist.{marked}
use Rattle.kept_set.proofs.reach.names_seen.Given as goal

-- the names so far and those from here on are all
abbrev pub invariant-loop-at : goal.invariant-loop-at
invariant-loop-at l = l.names.items ++ marked (drop l.at l.made) (drop l.at l.seen) ≡ marked l.made l.seen

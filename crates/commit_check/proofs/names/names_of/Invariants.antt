use Rattle.std.proofs.Common.{◌≡◌, take}
use Rattle.commit_check.specs.Conflicts.{names_of}
use Rattle.commit_check.proofs.names.names_of.Given as goal

-- the names of the pairs so far
abbrev pub invariant-loop-pair : goal.invariant-loop-pair
invariant-loop-pair g l = l.names.items ≡ names_of (take l.pair-index l.pairs)

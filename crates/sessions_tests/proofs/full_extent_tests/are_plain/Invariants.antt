use Rattle.std.proofs.Common.{◌≤◌, ◌-◌}
use Rattle.sessions_tests.proofs.Crowded.{AreBelow}
use Rattle.sessions_tests.proofs.full_extent_tests.are_plain.Given as goal

-- all objects before the next name are so
abbrev pub invariant-loop-entry : goal.invariant-loop-entry
invariant-loop-entry l = (l.next ≤ 64) × AreBelow l.image l.next

abbrev pub decreases-loop-entry : goal.decreases-loop-entry
decreases-loop-entry l = 64 - l.next

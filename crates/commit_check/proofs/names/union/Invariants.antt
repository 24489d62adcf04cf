use Rattle.std.proofs.Common.{length, drop, ◌-◌, ◌+◌, ◌++◌, ◌≡◌, ◌≤◌}
use Rattle.commit_check.specs.Union.{union}
use Rattle.commit_check.proofs.names.union.Given as goal

-- the names so far, and then the union of what is left, are the union
abbrev pub invariant-loop-i : goal.invariant-loop-i
invariant-loop-i l = (l.i ≤ length l.left) × (l.j ≤ length l.right)
    × (l.names.items ++ union (drop l.i l.left) (drop l.j l.right) ≡ union l.left l.right)

-- the names that are left
abbrev pub decreases-loop-i : goal.decreases-loop-i
decreases-loop-i l = (length l.left - l.i) + (length l.right - l.j)

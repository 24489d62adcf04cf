use Rattle.std.proofs.Common.{◌≡◌}
use Rattle.lock_table.specs.Search.{first_in_the_way}
use Rattle.lock_table.proofs.Scan.{scan}
use Rattle.lock_table.proofs.search.first_in_the_way.Given as goal

-- what is left has the answer
abbrev pub invariant-loop-holding : goal.invariant-loop-holding
invariant-loop-holding l = scan l.session l.oid l.kind l.holding-iterator ≡ first_in_the_way l.session l.oid l.kind l.locks.entries

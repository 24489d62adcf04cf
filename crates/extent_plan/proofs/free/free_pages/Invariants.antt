use Rattle.std.proofs.Common.{◌≤◌, ◌+◌, ◌-◌, length}
use Rattle.extent_plan.proofs.Runs.{Walked}
use Rattle.extent_plan.proofs.free.free_pages.Given as goal

abbrev pub invariant-loop-rest : goal.invariant-loop-rest
invariant-loop-rest l = record {
  walked : Walked l.used l.rest l.pages.items l.page;
  few : length l.pages.items ≤ l.count;
}

abbrev pub decreases-loop-rest : goal.decreases-loop-rest
decreases-loop-rest l = (l.count - length l.pages.items) + length l.rest

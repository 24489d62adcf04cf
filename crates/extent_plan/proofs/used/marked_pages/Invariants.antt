use Rattle.extent_plan.specs.Used.{marked, Collected}
use Rattle.extent_plan.proofs.used.marked_pages.Given as goal

abbrev pub invariant-loop-page : goal.invariant-loop-page
invariant-loop-page l = Collected 3 (marked l.marks) l.pages.items l.page

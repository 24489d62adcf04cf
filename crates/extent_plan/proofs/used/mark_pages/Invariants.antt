use Rattle.std.proofs.Common.{◌≡◌, length}
use Rattle.extent_plan.proofs.Marking.{Marking}
use Rattle.extent_plan.proofs.used.mark_pages.Given as goal

abbrev pub invariant-loop-page : goal.invariant-loop-page
invariant-loop-page l = record {
  long : length l.marks ≡ length l.initial.marks;
  marking : Marking l.initial.marks l.marks l.rest l.pages;
}

abbrev pub decreases-loop-page : goal.decreases-loop-page
decreases-loop-page l = length l.rest

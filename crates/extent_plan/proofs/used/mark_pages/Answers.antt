use Rattle.std.proofs.Common.{refl, subst, ◌∙◌}
use Rattle.extent_plan.proofs.Counting.{none_left}
use Rattle.extent_plan.proofs.Marking.{Marking, mark_one, mark_end}
use Rattle.extent_plan.proofs.used.mark_pages.Goals as goal

pub loop-page-init : goal.loop-page-init
loop-page-init c = record { long = refl; marking = λ page inside. refl }

pub loop-page-preserved : goal.loop-page-preserved
loop-page-preserved c = record {
  long = c.mark_page.ensures.length ∙ c.loop-page.invariant.long;
  marking = mark_one c.args.marks.now c.loop-page.marks c.mark_page.new.marks c.in-Some.page.now c.in-Some.behind.now c.args.pages.now
      c.loop-page.invariant.long c.mark_page.ensures.marks
      (subst (λ l. Marking c.args.marks.now c.loop-page.marks l c.args.pages.now) c.in-Some.ensures.cases.0 c.loop-page.invariant.marking);
}

pub returns : goal.returns
returns c = record {
  marks = mark_end c.args.marks.now c.loop-page.marks c.args.pages.now
      (subst (λ l. Marking c.args.marks.now c.loop-page.marks l c.args.pages.now) (none_left c.loop-page.rest.now c.in_default.ensures.cases)
      c.loop-page.invariant.marking);
  length = c.loop-page.invariant.long;
}

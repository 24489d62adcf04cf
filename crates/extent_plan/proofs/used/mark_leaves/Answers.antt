use Rattle.std.proofs.Common.{ℕ, false, ◌||◌, List, get_or, refl, ap, subst, ◌∙◌}
use Rattle.extent_pages.specs.Pages.{is_one_of}
use Rattle.extent_plan.specs.declared.place.LeafPlace.{LeafPlace}
use Rattle.extent_plan.specs.Used.{pages_in}
use Rattle.extent_plan.proofs.Counting.{none_left}
use Rattle.extent_plan.proofs.Marking.{Marking, mark_more, mark_end}
use Rattle.extent_plan.proofs.used.mark_leaves.Goals as goal

pub loop-leaf-init : goal.loop-leaf-init
loop-leaf-init c = record { long = refl; marking = λ page inside. refl }

pub loop-leaf-preserved : goal.loop-leaf-preserved
loop-leaf-preserved c = record {
  long = c.mark_pages.ensures.length ∙ c.loop-leaf.invariant.long;
  marking = mark_more c.args.marks.now c.loop-leaf.marks c.mark_pages.new.marks c.in-Some.leaf.now.pages.items
      (pages_in c.in-Some.behind.now) (pages_in c.args.leaves.now) c.loop-leaf.invariant.long
      (λ page inside. c.mark_pages.ensures.marks page inside
      ∙ ap (λ (l : List ℕ). get_or c.loop-leaf.marks page false || is_one_of page l) c.deref.ensures.value)
      (subst (λ (l : List LeafPlace). Marking c.args.marks.now c.loop-leaf.marks (pages_in l) (pages_in c.args.leaves.now)) c.in-Some.ensures.cases.0 c.loop-leaf.invariant.marking);
}

pub returns : goal.returns
returns c = record {
  marks = mark_end c.args.marks.now c.loop-leaf.marks (pages_in c.args.leaves.now)
      (subst (λ (l : List LeafPlace). Marking c.args.marks.now c.loop-leaf.marks (pages_in l) (pages_in c.args.leaves.now))
      (none_left c.loop-leaf.rest.now c.in_default.ensures.cases) c.loop-leaf.invariant.marking);
  length = c.loop-leaf.invariant.long;
}

use Rattle.std.proofs.Common.{◌≡◌, ◌<◌, Bool, false, ◌||◌, ℕ, List, length, get_or, sym, ap, subst, ◌∙◌, arith}
use Rattle.extent_pages.specs.Pages.{most_pages, is_one_of}
use Rattle.extent_plan.specs.Used.{pages_in}
use Rattle.extent_plan.proofs.Marking.{both_marked, none_outside, whole_again}
use Rattle.extent_plan.proofs.used.used_pages.Goals as goal

pub returns-clause-ascend : goal.returns-clause-ascend
returns-clause-ascend c = c.in_ok-pages.ensures.ascend

pub returns-clause-few : goal.returns-clause-few
returns-clause-few c = c.in_ok-pages.ensures.few

pub returns-clause-are : goal.returns-clause-are
returns-clause-are c = λ page low high.
    let none = c.deref_mut.result.now in
    let one = c.mark_pages.new.marks in
    let two = c.mark_leaves.new.marks in
    let second = pages_in c.args.leaves.now in
    let size : length none ≡ most_pages = ap length c.deref_mut.ensures.value ∙ c.in_ok-marks.ensures.length in
    let clear : get_or none page false ≡ false =
    ap (λ (l : List Bool). get_or l page false) c.deref_mut.ensures.value ∙ c.in_ok-marks.ensures.none page in
    let long : length one ≡ length c.in_ok-marks.marks.items = c.mark_pages.ensures.length ∙ ap length c.deref_mut.ensures.value in
    let len_is = c.in_ok-marks.marks.ok.0 in
    let first = whole_again c.in_ok-marks.marks.len one c.in_ok-marks.marks.items long len_is in
    let further = c.mark_leaves.ensures.length ∙ ap length c.deref_mut-2.ensures.value in
    let marked = subst (λ (l : List Bool). (p : ℕ) → p < length l → get_or two p false ≡ (get_or l p false || is_one_of p second))
    (c.deref_mut-2.ensures.value ∙ first) c.mark_leaves.ensures.marks in
    c.in_ok-pages.ensures.are page low high
    ∙ both_marked none one two c.deref.result.now c.args.directory.now second page (omega (arith, size, high)) clear
    c.mark_pages.ensures.marks c.mark_pages.ensures.length marked
    (c.deref.ensures.value ∙ whole_again _ two _ further (len_is ∙ sym long ∙ sym (ap length first)))

pub returns-clause-none : goal.returns-clause-none
returns-clause-none c = λ page outside. none_outside 3 _ c.in_ok-pages.pages.items most_pages page c.in_ok-pages.ensures outside

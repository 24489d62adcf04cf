use Rattle.std.proofs.Common.{false, Bool, List, get_or, ap, ◌∙◌}
use Rattle.extent_plan.proofs.Marking.{no_mark}
use Rattle.extent_plan.proofs.used.no_marks.Goals as goal

pub returns-clause-none : goal.returns-clause-none
returns-clause-none c = λ page.
    ap (λ (l : List Bool). get_or l page false) (c.in_ok-marks.ensures.items_if_clones_equal (λ y e. e)) ∙ no_mark c.args.count page

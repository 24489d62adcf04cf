use Rattle.std.proofs.Common.{rules, sym, ◌∙◌}
use Rattle.gem_object.proofs.Ties.{ties}
use Rattle.gem_object.proofs.laws.order_of_values.Goals as goal

pub returns-clause-order : goal.returns-clause-order
returns-clause-order c = search rules

pub returns-clause-equal : goal.returns-clause-equal
returns-clause-equal c value other tie =
    ties value other (sym (returns-clause-order c value other) ∙ tie)

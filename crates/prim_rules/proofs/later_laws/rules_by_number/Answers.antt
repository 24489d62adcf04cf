use Rattle.std.proofs.Common.{refl}
use Rattle.prim_rules.specs.LaterRules.{later_rule}
use Rattle.prim_rules.proofs.later_laws.rules_by_number.Goals as goal

pub returns-clause-numbers : goal.returns-clause-numbers
unfolding later_rule
returns-clause-numbers c receiver arguments setting state =
    (refl, refl, refl, refl, refl, refl, refl, refl, refl)

pub returns-clause-no_rule : goal.returns-clause-no_rule
unfolding later_rule
returns-clause-no_rule c receiver arguments setting state = refl

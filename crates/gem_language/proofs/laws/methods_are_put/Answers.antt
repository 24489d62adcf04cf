use Rattle.gem_language.proofs.MethodLists.{finds_own, finds_others, ascends_with}
use Rattle.gem_language.proofs.laws.methods_are_put.Goals as goal

pub returns-clause-own : goal.returns-clause-own
returns-clause-own c new methods = finds_own new methods

pub returns-clause-others : goal.returns-clause-others
returns-clause-others c new methods selector other = finds_others new selector other methods

pub returns-clause-ascending : goal.returns-clause-ascending
returns-clause-ascending c new methods holds = ascends_with new methods holds

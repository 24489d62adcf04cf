use Rattle.std.proofs.Common.{refl}
use Rattle.tree_meaning.specs.Scopes.{close_scope}
use Rattle.tree_meaning.proofs.laws.blocks_in_place.Goals as goal

pub returns-clause-temporaries : goal.returns-clause-temporaries
unfolding close_scope
returns-clause-temporaries c replies setting place frame state name rest body = refl

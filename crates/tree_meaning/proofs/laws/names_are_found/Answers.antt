use Rattle.std.proofs.Common.{refl, subst}
use Rattle.tree_meaning.specs.Names.{where_is}
use Rattle.tree_meaning.proofs.Found.{StandsFor, stands_for}
use Rattle.tree_meaning.proofs.laws.names_are_found.Goals as goal

pub returns-clause-variable : goal.returns-clause-variable
returns-clause-variable c text names depth index is =
    subst (λ found. StandsFor text names found) is (stands_for text names)

pub returns-clause-no_variable : goal.returns-clause-no_variable
returns-clause-no_variable c text names is =
    subst (λ found. StandsFor text names found) is (stands_for text names)

pub returns-clause-pseudo : goal.returns-clause-pseudo
unfolding where_is
returns-clause-pseudo c names = (refl, refl, refl, refl, refl)

use Rattle.std.proofs.Common.{refl}
use Rattle.tree_meaning.specs.Calls.{make_block}
use Rattle.gem_language.specs.Sends.{outside}
use Rattle.gem_language.proofs.tree_laws.blocks_and_returns.Goals as goal

pub returns-clause-made : goal.returns-clause-made
unfolding make_block outside
returns-clause-made c depth setting place frame state tree = refl

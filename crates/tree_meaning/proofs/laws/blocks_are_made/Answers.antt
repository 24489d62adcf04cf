use Rattle.std.proofs.Common.{refl}
use Rattle.tree_meaning.specs.Calls.{make_block}
use Rattle.tree_meaning.proofs.laws.blocks_are_made.Goals as goal

pub returns : goal.returns
unfolding make_block
returns c replies setting place frame state tree = refl

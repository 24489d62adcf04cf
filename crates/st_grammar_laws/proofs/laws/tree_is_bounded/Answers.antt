use Rattle.st_grammar_laws.proofs.Bounded.{tree_bounded}
use Rattle.st_grammar_laws.proofs.laws.tree_is_bounded.Goals as goal

pub returns : goal.returns
returns c = tree_bounded

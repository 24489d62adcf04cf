use Rattle.stone_core.proofs.First.{first_wins}
use Rattle.stone_core.proofs.laws.first_committer_wins.Goals as goal

pub returns : goal.returns
returns c = first_wins

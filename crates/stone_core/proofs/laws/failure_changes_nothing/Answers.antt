use Rattle.stone_core.proofs.First.{still_stands}
use Rattle.stone_core.proofs.laws.failure_changes_nothing.Goals as goal

pub returns : goal.returns
returns c = still_stands

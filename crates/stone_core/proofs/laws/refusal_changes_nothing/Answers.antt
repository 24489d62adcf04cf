use Rattle.stone_core.proofs.First.{nothing_changed}
use Rattle.stone_core.proofs.laws.refusal_changes_nothing.Goals as goal

pub returns : goal.returns
returns c = nothing_changed

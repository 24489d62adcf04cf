use Rattle.history_laws.proofs.Unchanged.{unchanged_since}
use Rattle.history_laws.proofs.laws.unchanged_since.Goals as goal

pub returns : goal.returns
returns c = λ o events view name from to old. unchanged_since o events view name from to old

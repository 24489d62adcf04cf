use Rattle.lock_table.proofs.Changes.{dropped_this, dropped_others}
use Rattle.lock_table.proofs.laws.dropped_changes_one.Goals as goal

pub returns-clause-this : goal.returns-clause-this
returns-clause-this c = dropped_this

pub returns-clause-others : goal.returns-clause-others
returns-clause-others c = dropped_others

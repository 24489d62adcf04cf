use Rattle.lock_table.proofs.Changes.{held_this, held_others}
use Rattle.lock_table.proofs.laws.held_changes_one.Goals as goal

pub returns-clause-this : goal.returns-clause-this
returns-clause-this c = held_this

pub returns-clause-others : goal.returns-clause-others
returns-clause-others c = held_others

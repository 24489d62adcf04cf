use Rattle.lock_table.proofs.Changes.{left_this, left_others}
use Rattle.lock_table.proofs.laws.left_changes_one_session.Goals as goal

pub returns-clause-this : goal.returns-clause-this
returns-clause-this c = left_this

pub returns-clause-others : goal.returns-clause-others
returns-clause-others c locks session other oid apart = left_others locks session oid other oid apart

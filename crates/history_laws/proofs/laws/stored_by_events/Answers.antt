use Rattle.history_laws.proofs.Halts.{stored_first, stored_more}
use Rattle.history_laws.proofs.laws.stored_by_events.Goals as goal

pub returns-clause-begins : goal.returns-clause-begins
returns-clause-begins c = stored_first

pub returns-clause-more : goal.returns-clause-more
returns-clause-more c = stored_more

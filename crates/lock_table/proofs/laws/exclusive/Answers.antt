use Rattle.lock_table.proofs.Exclusive.{exclusive_event, exclusive_after}
use Rattle.lock_table.proofs.laws.exclusive.Goals as goal

pub returns-clause-event : goal.returns-clause-event
returns-clause-event c = exclusive_event

pub returns-clause-events : goal.returns-clause-events
returns-clause-events c = exclusive_after

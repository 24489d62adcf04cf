use Rattle.lock_table.proofs.Counts.{held_more, dropped_fewer, dropped_none, left_fewer, left_none}
use Rattle.lock_table.proofs.laws.counts_of_locks.Goals as goal

pub returns-clause-held : goal.returns-clause-held
returns-clause-held c = held_more

pub returns-clause-dropped : goal.returns-clause-dropped
returns-clause-dropped c = dropped_fewer

pub returns-clause-dropped_none : goal.returns-clause-dropped_none
returns-clause-dropped_none c = dropped_none

pub returns-clause-left : goal.returns-clause-left
returns-clause-left c = left_fewer

pub returns-clause-left_none : goal.returns-clause-left_none
returns-clause-left_none c = left_none

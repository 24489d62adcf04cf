use Rattle.history_laws.proofs.Writes.{written_by_write, updated_by_write}
use Rattle.history_laws.proofs.Unseen.{same_run, same_moments, same_record}
use Rattle.history_laws.proofs.Obeyed.{refused_ends}
use Rattle.history_laws.proofs.laws.accesses_are_allowed.Goals as goal

pub returns-clause-refused_ends : goal.returns-clause-refused_ends
returns-clause-refused_ends c = refused_ends

pub returns-clause-unseen_is_unknown : goal.returns-clause-unseen_is_unknown
returns-clause-unseen_is_unknown c = same_run

pub returns-clause-same_moments : goal.returns-clause-same_moments
returns-clause-same_moments c = same_moments

pub returns-clause-same_record : goal.returns-clause-same_record
returns-clause-same_record c = same_record

pub returns-clause-written : goal.returns-clause-written
returns-clause-written c = written_by_write

pub returns-clause-updated : goal.returns-clause-updated
returns-clause-updated c = updated_by_write

use Rattle.page_file.proofs.Rests.{step_stays, write_stays, cut_stays, sync_stays}
use Rattle.page_file.proofs.laws.rest_stays.Goals as goal

pub returns-clause-step : goal.returns-clause-step
returns-clause-step c = step_stays

pub returns-clause-write : goal.returns-clause-write
returns-clause-write c = write_stays

pub returns-clause-cut : goal.returns-clause-cut
returns-clause-cut c = cut_stays

pub returns-clause-sync : goal.returns-clause-sync
returns-clause-sync c = sync_stays

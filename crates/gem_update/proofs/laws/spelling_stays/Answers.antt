use Rattle.gem_update.proofs.Spelled.{updated_spelled, merged_spelled}
use Rattle.gem_update.proofs.laws.spelling_stays.Goals as goal

pub returns-clause-update : goal.returns-clause-update
returns-clause-update c = updated_spelled

pub returns-clause-merge : goal.returns-clause-merge
returns-clause-merge c = merged_spelled

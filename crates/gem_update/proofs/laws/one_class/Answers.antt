use Rattle.gem_update.proofs.Classes.{updates_fit, merged_fit, updated_kind, merged_kind}
use Rattle.gem_update.proofs.laws.one_class.Goals as goal

pub returns-clause-update : goal.returns-clause-update
returns-clause-update c = updates_fit

pub returns-clause-merge : goal.returns-clause-merge
returns-clause-merge c = merged_fit

pub returns-clause-kind : goal.returns-clause-kind
returns-clause-kind c = updated_kind

pub returns-clause-merged_kind : goal.returns-clause-merged_kind
returns-clause-merged_kind c = merged_kind

use Rattle.kept_set.proofs.Leads.{kept_names, kept_objects, kept_ascend}
use Rattle.kept_set.proofs.laws.kept_is_smallest.Goals as goal

pub returns-clause-names : goal.returns-clause-names
returns-clause-names c = kept_names

pub returns-clause-objects : goal.returns-clause-objects
returns-clause-objects c = kept_objects

pub returns-clause-order : goal.returns-clause-order
returns-clause-order c = kept_ascend

use Rattle.commit_check.proofs.MergedObjects.{listed_merged, merged_listed}
use Rattle.commit_check.proofs.Ordered.{merged_in_order}
use Rattle.commit_check.proofs.laws.exactly_the_merged.Goals as goal

pub returns-clause-each : goal.returns-clause-each
returns-clause-each c image transaction oid object =
    (listed_merged image transaction oid object, merged_listed image transaction oid object)

pub returns-clause-in_order : goal.returns-clause-in_order
returns-clause-in_order c = merged_in_order

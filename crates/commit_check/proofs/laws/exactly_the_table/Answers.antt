use Rattle.commit_check.proofs.Listed.{stands_listed}
use Rattle.commit_check.proofs.Ordered.{in_order}
use Rattle.commit_check.proofs.Stood.{listed_stands}
use Rattle.commit_check.proofs.laws.exactly_the_table.Goals as goal

pub returns-clause-each : goal.returns-clause-each
returns-clause-each c place transaction conflict =
    (listed_stands place transaction conflict, stands_listed place transaction conflict)

pub returns-clause-in_order : goal.returns-clause-in_order
returns-clause-in_order c = in_order

use Rattle.session_laws.proofs.Faults.{fault_of_one, none_of_running, some_of_halted}
use Rattle.session_laws.proofs.laws.faults_are_told.Goals as goal

pub returns-clause-own : goal.returns-clause-own
returns-clause-own c = fault_of_one

pub returns-clause-running : goal.returns-clause-running
returns-clause-running c = none_of_running

pub returns-clause-halted : goal.returns-clause-halted
returns-clause-halted c = some_of_halted

use Rattle.gem_server.proofs.DiskFaults.{faults_have_cause, faults_are_told, no_fault_alone}
use Rattle.gem_server.proofs.laws.disk_faults_are_told.Goals as goal

pub returns-clause-cause : goal.returns-clause-cause
returns-clause-cause c = faults_have_cause

pub returns-clause-told : goal.returns-clause-told
returns-clause-told c = faults_are_told

pub returns-clause-alone : goal.returns-clause-alone
returns-clause-alone c = no_fault_alone

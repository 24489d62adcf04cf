use Rattle.tran_log.proofs.Restarting.{rest_reads, rest_holds}
use Rattle.tran_log.proofs.laws.rest_is_held.Goals as goal

pub returns-clause-reads : goal.returns-clause-reads
returns-clause-reads c = rest_reads

pub returns-clause-images : goal.returns-clause-images
returns-clause-images c = rest_holds

use Rattle.tran_log.proofs.Again.{log_is}
use Rattle.tran_log.proofs.laws.chains_read_back.Goals as goal

pub returns : goal.returns
returns c = log_is

use Rattle.tran_log.proofs.OldLogs.{same_log, of_log}
use Rattle.tran_log.proofs.laws.old_logs.Goals as goal

pub returns-clause-same : goal.returns-clause-same
returns-clause-same c = same_log

pub returns-clause-of_format_1 : goal.returns-clause-of_format_1
returns-clause-of_format_1 c = of_log

use Rattle.std.proofs.Common.{sym}
use Rattle.std.proofs.lemmas.List.{append_assoc}
use Rattle.tran_log.proofs.fault.LogFaultDisplay.fmt.Goals as goal

pub returns-in-NotLog-clause-writes : goal.returns-in-NotLog-clause-writes
returns-in-NotLog-clause-writes g c = λ plain ok.
    rw (c.in-NotLog.is, append_assoc, sym c.number-rule.ensures) (c.write.ensures.writes plain ok)

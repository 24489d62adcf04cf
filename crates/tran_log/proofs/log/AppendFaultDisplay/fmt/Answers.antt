use Rattle.std.proofs.lemmas.List.{append_assoc}
use Rattle.tran_log.proofs.log.AppendFaultDisplay.fmt.Goals as goal

pub returns-in-Full-clause-writes : goal.returns-in-Full-clause-writes
returns-in-Full-clause-writes g c = λ plain ok.
    rw (c.in-Full.is, append_assoc) (c.write.ensures.writes plain ok)

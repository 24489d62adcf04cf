use Rattle.std.proofs.lemmas.List.{append_assoc}
use Rattle.st_parser.proofs.faults.ParseFaultDisplay.fmt.Goals as goal

pub returns-in-Rule-clause-writes : goal.returns-in-Rule-clause-writes
returns-in-Rule-clause-writes g c = λ plain ok.
    rw (c.in-Rule.is, append_assoc) (c.write.ensures.writes plain ok)

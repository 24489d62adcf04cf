use Rattle.std.proofs.Common.{sym}
use Rattle.std.proofs.lemmas.List.{append_assoc}
use Rattle.body_codec.proofs.fault.BodyFaultDisplay.fmt.Goals as goal

pub returns-in-Bad-clause-writes : goal.returns-in-Bad-clause-writes
returns-in-Bad-clause-writes g c = λ plain ok.
    rw (c.in-Bad.is, append_assoc, sym c.number-rule.ensures) (c.write.ensures.writes plain ok)

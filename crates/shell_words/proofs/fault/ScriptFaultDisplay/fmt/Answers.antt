use Rattle.std.proofs.Common.{sym}
use Rattle.std.proofs.lemmas.List.{append_assoc}
use Rattle.shell_words.proofs.fault.ScriptFaultDisplay.fmt.Goals as goal

pub returns-in-Rule-clause-writes : goal.returns-in-Rule-clause-writes
returns-in-Rule-clause-writes g c = λ plain ok.
    rw (c.in-Rule.is, append_assoc, sym c.number-rule.ensures) (c.write.ensures.writes plain ok)

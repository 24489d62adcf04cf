use Rattle.std.proofs.lemmas.List.{append_assoc}
use Rattle.st_lexer.proofs.kinds.LexFaultDisplay.fmt.Goals as goal

pub returns-in-Bad-clause-writes : goal.returns-in-Bad-clause-writes
returns-in-Bad-clause-writes g c = λ plain ok.
    rw (c.in-Bad.is, append_assoc) (c.write.ensures.writes plain ok)

use Rattle.std.proofs.Common.{sym}
use Rattle.std.proofs.lemmas.List.{append_assoc}
use Rattle.extent_pages.proofs.fault.PageFaultDisplay.fmt.Goals as goal

pub returns-in-NotPages-clause-writes : goal.returns-in-NotPages-clause-writes
returns-in-NotPages-clause-writes g c = λ plain ok.
    rw (c.in-NotPages.is, append_assoc, sym c.number-rule.ensures) (c.write.ensures.writes plain ok)

use Rattle.shell_words.proofs.LineFronts.{ends_with_return, ends_otherwise}
use Rattle.shell_words.proofs.pieces.without_return.Goals as goal

pub returns-in-Some-clause-value : goal.returns-in-Some-clause-value
returns-in-Some-clause-value c = ends_with_return _ _ _ c.in-Some.ensures.cases.0 c.if-byte-eq13.true

pub returns-in_default-clause-value : goal.returns-in_default-clause-value
returns-in_default-clause-value c = ends_otherwise _ _ _ c.in-Some.ensures.cases.0 c.if-byte-eq13.false

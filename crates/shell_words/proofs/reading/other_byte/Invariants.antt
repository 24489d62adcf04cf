use Rattle.std.proofs.Common.{length}
use Rattle.shell_words.specs.Lines.{lines_of}
use Rattle.shell_words.proofs.Bodies.{Plain}
use Rattle.shell_words.proofs.reading.other_byte.Given as goal

abbrev pub invariant-loop-rest : goal.invariant-loop-rest
invariant-loop-rest l = Plain (lines_of l.text) l.number (lines_of l.rest)

abbrev pub decreases-loop-rest : goal.decreases-loop-rest
decreases-loop-rest l = length l.rest

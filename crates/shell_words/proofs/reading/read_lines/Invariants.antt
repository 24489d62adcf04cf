use Rattle.std.proofs.Common.{length, ◌≤◌}
use Rattle.shell_words.specs.Lines.{lines_of}
use Rattle.shell_words.proofs.Progress.{Standing}
use Rattle.shell_words.proofs.reading.read_lines.Given as goal

abbrev pub invariant-loop-rest : goal.invariant-loop-rest
invariant-loop-rest l = Standing (lines_of l.text) l.reading (lines_of l.rest) × (length l.rest ≤ length l.text)

abbrev pub decreases-loop-rest : goal.decreases-loop-rest
decreases-loop-rest l = length l.rest

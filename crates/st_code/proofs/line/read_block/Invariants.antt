use Rattle.std.proofs.Common.{◌≡◌, ◌+◌, length, Ok}
use Rattle.st_code.specs.Lines.{joined, lines_from}
use Rattle.st_code.proofs.line.read_block.Given as goal

-- what is read, and then the rest, is the whole
abbrev pub invariant-loop-behind : goal.invariant-loop-behind
invariant-loop-behind l = record {
  places : l.at + length l.rest ≡ l.start + length l.bytes;
  size : length l.lines.items + length l.rest ≡ length l.bytes;
  whole : joined (Ok l.lines.items) (lines_from l.block l.at l.skip l.rest) ≡ lines_from l.block l.start 0 l.bytes;
}

abbrev pub decreases-loop-behind : goal.decreases-loop-behind
decreases-loop-behind l = length l.rest

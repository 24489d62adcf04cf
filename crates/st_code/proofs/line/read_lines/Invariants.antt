use Rattle.std.proofs.Common.{◌≡◌, ◌≤◌, true, length, Ok}
use Rattle.st_code.specs.Lines.{end_of, ascend, joined, lines_of}
use Rattle.st_code.proofs.line.read_lines.Given as goal

abbrev pub invariant-loop-block : goal.invariant-loop-block
invariant-loop-block l = record {
  ascend : ascend (length l.bytes) l.rest ≡ true;
  few : l.number ≤ end_of (length l.bytes) l.rest;
  size : length l.lines.items ≡ end_of (length l.bytes) l.rest;
  whole : joined (Ok l.lines.items) (lines_of l.bytes l.number l.rest) ≡ lines_of l.bytes 0 l.blocks;
}

abbrev pub decreases-loop-block : goal.decreases-loop-block
decreases-loop-block l = length l.rest

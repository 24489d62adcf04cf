use Rattle.std.proofs.Common.{◌≡◌, length}
use Rattle.st_code.specs.Lines.{ascend}
use Rattle.st_code.proofs.blocks.ascend.Given as goal

abbrev pub invariant-loop-block : goal.invariant-loop-block
invariant-loop-block l = ascend l.size l.rest ≡ ascend l.size l.blocks

abbrev pub decreases-loop-block : goal.decreases-loop-block
decreases-loop-block l = length l.rest

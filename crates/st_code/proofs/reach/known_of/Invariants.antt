use Rattle.std.proofs.Common.{◌≡◌}
use Rattle.st_code.specs.Ways.{reach, known_of}
use Rattle.st_code.proofs.reach.known_of.Given as goal

abbrev pub invariant-loop-steps : goal.invariant-loop-steps
invariant-loop-steps l = reach l.lines l.blocks l.steps l.ways.items l.known.items ≡ known_of l.lines l.blocks

abbrev pub decreases-loop-steps : goal.decreases-loop-steps
decreases-loop-steps l = l.steps

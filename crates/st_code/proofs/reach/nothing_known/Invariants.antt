use Rattle.std.proofs.Common.{◌≡◌, None, replicate}
use Rattle.st_code.proofs.reach.nothing_known.Given as goal

abbrev pub invariant-loop-place : goal.invariant-loop-place
invariant-loop-place l = l.known.items ≡ replicate l._place None

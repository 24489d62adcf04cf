use Rattle.sorted_pairs.proofs.Places.{AscendsBelow}
use Rattle.sorted_pairs.proofs.search.ascend.Given as goal

-- each of the first keys is below the next
abbrev pub invariant-loop-at : goal.invariant-loop-at
invariant-loop-at g l = AscendsBelow g.K.Ord.cmp l.pairs l.at

use Rattle.stone_store.proofs.Sums.{IsMeasured}
use Rattle.stone_store.proofs.count.measure_leaf.Given as goal

abbrev pub invariant-loop-place : goal.invariant-loop-place
invariant-loop-place l = IsMeasured l.image l.root l.leaf l.place l.measured

use Rattle.sessions_tests.proofs.InTurn.{HaveRun}
use Rattle.sessions_tests.proofs.keepers.run_all.Given as goal

abbrev pub invariant-loop-index : goal.invariant-loop-index
invariant-loop-index g l = HaveRun l.fn.stone.told l.stone.told l.index

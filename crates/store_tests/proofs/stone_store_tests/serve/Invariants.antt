use Rattle.std.proofs.Common.{◌≡◌, true, is_some}
use Rattle.store_tests.proofs.stone_store_tests.serve.Given as goal

abbrev pub invariant-loop-call : goal.invariant-loop-call
invariant-loop-call g l = is_some l.store.parts ≡ true

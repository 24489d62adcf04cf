use Rattle.std.proofs.Common.{◌≡◌, ◌++◌, reverse, take}
use Rattle.st_machine.proofs.scopes.put_scopes.Given as goal

abbrev pub invariant-loop-scope : goal.invariant-loop-scope
invariant-loop-scope l = record {
  own : l.chain.own ≡ reverse (take l.scope-index l.scopes) ++ l.initial.chain.own;
  below : l.chain.below ≡ l.initial.chain.below;
}

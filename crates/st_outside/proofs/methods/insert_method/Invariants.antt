use Rattle.std.proofs.Common.{◌≡◌, ◌-◌, ◌++◌, length, take, drop}
use Rattle.gem_language.specs.Install.{with_method}
use Rattle.st_outside.proofs.methods.insert_method.Given as goal

abbrev pub invariant-loop-at : goal.invariant-loop-at
invariant-loop-at l = (l.methods ≡ l.fn.methods)
    × (with_method l.method l.fn.methods ≡ take l.at l.fn.methods ++ with_method l.method (drop l.at l.fn.methods))

abbrev pub decreases-loop-at : goal.decreases-loop-at
decreases-loop-at l = length l.methods - l.at

use Rattle.std.proofs.Common.{◌≡◌, drop}
use Rattle.gem_language.specs.LookUp.{code_of}
use Rattle.st_outside.proofs.look_up.code_of.Given as goal

abbrev pub invariant-loop-method : goal.invariant-loop-method
invariant-loop-method l = code_of l.selector (drop l.method-index l.methods) ≡ code_of l.selector l.methods

use Rattle.std.proofs.Common.{◌≡◌, ◌++◌, replicate}
use Rattle.gem_object.specs.declared.value.Value.TheVariants.{Nil}
use Rattle.st_locals.proofs.locals.with_nils.Given as goal

abbrev pub invariant-loop-temp : goal.invariant-loop-temp
invariant-loop-temp l = l.values.items ≡ l.initial.values.items ++ replicate l._temp Nil

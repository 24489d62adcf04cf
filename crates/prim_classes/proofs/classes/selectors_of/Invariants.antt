use Rattle.std.proofs.Common.{◌≡◌, map, take}
use Rattle.gem_object.specs.declared.value.Value.TheVariants.{Sym}
use Rattle.prim_classes.proofs.classes.selectors_of.Given as goal

abbrev pub invariant-loop-method : goal.invariant-loop-method
invariant-loop-method l = l.values.items ≡ map (λ method. Sym method.selector) (take l.method-index l.methods)

use Rattle.std.proofs.Common.{◌≡◌, not, filter, take}
use Rattle.prim_rules.specs.Classes.{has_selector}
use Rattle.prim_classes.proofs.classes.methods_without.Given as goal

abbrev pub invariant-loop-method : goal.invariant-loop-method
invariant-loop-method l = l.kept.items ≡ filter (λ method. not (has_selector l.selector method)) (take l.method-index l.methods)

use Rattle.std.proofs.Common.{◌≡◌, ◌++◌, replicate}
use Rattle.gem_object.specs.declared.value.Value.TheVariants.{Nil}
use Rattle.prim_classes.proofs.creation.nil_slots.Given as goal

abbrev pub invariant-loop-left : goal.invariant-loop-left
invariant-loop-left l = l.slots.items ++ replicate l.left Nil ≡ replicate l.count Nil

abbrev pub decreases-loop-left : goal.decreases-loop-left
decreases-loop-left l = l.left

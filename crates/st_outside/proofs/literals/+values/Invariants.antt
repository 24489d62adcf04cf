use Rattle.std.proofs.Common.{map, drop, List, Result}
use Rattle.st_tree.specs.Trees.{constants}
use Rattle.st_tree.specs.Views.{constant_of}
use Rattle.gem_object.specs.declared.value.Value.{Value}
use Rattle.running_objects.specs.Seen.{Seen}
use Rattle.running_objects.specs.declared.stop.Stop.{Stop}
use Rattle.gem_language.specs.Literals.{constant_values}
use Rattle.prim_parts.specs.Does.{Does}
use Rattle.st_outside.proofs.Elements.{prepended}
use Rattle.st_outside.proofs.literals.+values.Given as goal

abbrev pub invariant-constant_values-loop-item : goal.invariant-constant_values-loop-item
invariant-constant_values-loop-item g l = (others : Result (List Value) Stop) (after : Seen)
    → Does (constant_values (constants (map constant_of (drop l.item-index l.items)))) (g.O.Objects.seen l.objects) others after
    → Does (constant_values (constants (map constant_of l.items))) (g.O.Objects.seen l.fn.objects)
    (prepended l.values.items others) after

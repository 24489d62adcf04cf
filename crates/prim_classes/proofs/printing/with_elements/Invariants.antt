use Rattle.std.proofs.Common.{◌≡◌, Option, Result, drop}
use Rattle.gem_object.specs.texts.Bytes.{Bytes as Text}
use Rattle.running_objects.specs.Seen.{Seen}
use Rattle.running_objects.specs.declared.stop.Stop.{Stop}
use Rattle.prim_rules.specs.Printing.{with_elements}
use Rattle.prim_classes.specs.Prints.{short, shortened}
use Rattle.prim_parts.specs.Does.{Does}
use Rattle.prim_classes.proofs.printing.with_elements.Given as goal

-- what the elements that are left make of each text that is short as this one, the whole makes
abbrev pub invariant-loop-element : goal.invariant-loop-element
invariant-loop-element g l = (result : Result (Option Text) Stop) (after : Seen)
    → ((whole : Text) → short whole ≡ l.so_far
    → Does (shortened (with_elements whole (drop l.element-index l.elements))) (g.O.Objects.seen l.objects) result after)
    → Does (shortened (with_elements l.fn.first l.elements)) (g.O.Objects.seen l.fn.objects) result after

use Rattle.std.proofs.Common.{false, Bool, Result}
use Rattle.running_objects.specs.Seen.{Seen}
use Rattle.running_objects.specs.declared.stop.Stop.{Stop}
use Rattle.prim_rules.specs.Any.{reads_up}
use Rattle.prim_parts.specs.Does.{Does}
use Rattle.prim_classes.proofs.kind_of.reads_up.Given as goal

-- what the classes from here on make of it, the whole makes
abbrev pub invariant-loop-left : goal.invariant-loop-left
invariant-loop-left g l = (result : Result Bool Stop) (after : Seen)
    → Does (reads_up l.left l.ancestor l.found l.class) (g.O.Objects.seen l.objects) result after
    → Does (reads_up l.limit l.ancestor false l.fn.class) (g.O.Objects.seen l.fn.objects) result after

abbrev pub decreases-loop-left : goal.decreases-loop-left
decreases-loop-left g l = l.left

use Rattle.std.proofs.Common.{Option, None, Result}
use Rattle.object_programs.specs.Run.{give}
use Rattle.running_objects.specs.Seen.{Seen}
use Rattle.running_objects.specs.declared.stop.Stop.{Stop}
use Rattle.gem_language.specs.LookUp.{up_classes}
use Rattle.gem_language.specs.declared.found.Found.{Found}
use Rattle.prim_parts.specs.Does.{Does}
use Rattle.st_outside.proofs.Ups.{going_up}
use Rattle.st_outside.proofs.look_up.up_classes.Given as goal

abbrev pub invariant-loop-limit : goal.invariant-loop-limit
invariant-loop-limit g l = (result : Result (Option Found) Stop) (after : Seen)
    → Does (going_up l.class_side l.selector l.limit l.class) (g.O.Objects.seen l.objects) result after
    → Does (up_classes l.class_side l.selector (give None) l.fn.class) (g.O.Objects.seen l.fn.objects) result after

abbrev pub decreases-loop-limit : goal.decreases-loop-limit
decreases-loop-limit g l = l.limit

use Rattle.std.proofs.Common.{◌≤◌, ◌^◌, ◌+◌, List, Result}
use Rattle.gem_object.specs.texts.Bytes.{Bytes as Text}
use Rattle.running_objects.specs.Seen.{Seen}
use Rattle.running_objects.specs.declared.stop.Stop.{Stop}
use Rattle.prim_parts.specs.Does.{Does}
use Rattle.st_outside.proofs.Indexes.{names_going, indexed, IsReached, IndexTold}
use Rattle.st_outside.proofs.instances.variable_index.Given as goal

abbrev pub invariant-loop-limit : goal.invariant-loop-limit
invariant-loop-limit g l = ((l.limit ≤ 2 ^ 48 + 1) × IsReached l.limit l.found)
    × ((names : Result (List Text) Stop) (after : Seen)
    → Does (names_going l.limit l.class) (g.O.Objects.seen l.objects) names after
    → IndexTold l.name l.fn.class (g.O.Objects.seen l.fn.objects) (indexed l.name l.found names) after)

abbrev pub decreases-loop-limit : goal.decreases-loop-limit
decreases-loop-limit g l = l.limit

use Rattle.std.proofs.Common.{◌≡◌}
use Rattle.prim_parts.specs.Walks.{parts_seen, classes_up, has_class}
use Rattle.prim_parts.proofs.classes.has_class.Given as goal

abbrev pub invariant-loop-limit : goal.invariant-loop-limit
invariant-loop-limit g l = has_class l.fn.ancestor (classes_up (parts_seen (g.O.Objects.seen l.objects)) l.limit l.class)
    ≡ has_class l.fn.ancestor (classes_up (parts_seen (g.O.Objects.seen l.objects)) l.fn.limit l.fn.class)

abbrev pub decreases-loop-limit : goal.decreases-loop-limit
decreases-loop-limit g l = l.limit

use Rattle.std.proofs.Common.{◌≡◌, ◌+◌}
use Rattle.prim_parts.specs.Walks.{parts_seen, classes_up, count_names}
use Rattle.prim_parts.proofs.classes.count_names.Given as goal

abbrev pub invariant-loop-limit : goal.invariant-loop-limit
invariant-loop-limit g l = l.count + count_names (classes_up (parts_seen (g.O.Objects.seen l.objects)) l.limit l.class)
    ≡ count_names (classes_up (parts_seen (g.O.Objects.seen l.objects)) l.fn.limit l.fn.class)

abbrev pub decreases-loop-limit : goal.decreases-loop-limit
decreases-loop-limit g l = l.limit

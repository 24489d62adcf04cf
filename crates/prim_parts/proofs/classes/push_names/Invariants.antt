use Rattle.std.proofs.Common.{◌≡◌, ◌++◌}
use Rattle.prim_parts.specs.Walks.{parts_seen, classes_up, names_of}
use Rattle.prim_parts.proofs.classes.push_names.Given as goal

abbrev pub invariant-loop-limit : goal.invariant-loop-limit
invariant-loop-limit g l = l.names.items ++ names_of (classes_up (parts_seen (g.O.Objects.seen l.objects)) l.limit l.class)
    ≡ names_of (classes_up (parts_seen (g.O.Objects.seen l.objects)) l.fn.limit l.fn.class)

abbrev pub decreases-loop-limit : goal.decreases-loop-limit
decreases-loop-limit g l = l.limit

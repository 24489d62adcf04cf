use Rattle.std.proofs.Common.{◌≡◌}
use Rattle.object_programs.specs.Guard.{holds_of, names_at}
use Rattle.object_guard.specs.Parts.{has_room}
use Rattle.object_guard.proofs.Names.{names_up}
use Rattle.object_guard.proofs.classes.has_names.Given as goal

abbrev pub invariant-loop-limit : goal.invariant-loop-limit
invariant-loop-limit g l = holds_of (has_room l.slots) (names_up (g.S.Sees.parts l.state) l.limit l.class)
    ≡ holds_of (has_room l.fn.slots) (names_at (g.S.Sees.parts l.state) l.fn.class)

abbrev pub decreases-loop-limit : goal.decreases-loop-limit
decreases-loop-limit g l = l.limit

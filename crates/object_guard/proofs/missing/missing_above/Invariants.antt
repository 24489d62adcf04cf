use Rattle.std.proofs.Common.{◌≡◌}
use Rattle.object_programs.specs.Guard.{line_at}
use Rattle.object_guard.specs.Missing.{missing_of}
use Rattle.object_guard.proofs.Lines.{line_up}
use Rattle.object_guard.proofs.missing.missing_above.Given as goal

abbrev pub invariant-loop-limit : goal.invariant-loop-limit
invariant-loop-limit g l = missing_of (g.S.Sees.parts l.state) (line_up (g.S.Sees.parts l.state) l.limit l.class)
    ≡ missing_of (g.S.Sees.parts l.state) (line_at (g.S.Sees.parts l.state) l.fn.class)

abbrev pub decreases-loop-limit : goal.decreases-loop-limit
decreases-loop-limit g l = l.limit

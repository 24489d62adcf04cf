use Rattle.std.proofs.Common.{refl}
use Rattle.object_programs.specs.Programs.{update}
use Rattle.prim_rules.proofs.later_laws.bags_hold_items.Goals as goal

pub returns-clause-absent : goal.returns-clause-absent
unfolding update
returns-clause-absent c name class segment item pairs setting state admits absent =
    rw (admits.allowed, admits.there, absent) refl

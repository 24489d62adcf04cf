use Rattle.std.specs.Prelude.{◌≡◌, ◌-◌, nat_le, true}
use Rattle.std.proofs.Common.{refl, arith}
use Rattle.std.proofs.Math.Dec.{leb-zero}
use Rattle.object_programs.specs.Programs.{update}
use Rattle.prim_rules.proofs.later_laws.counters_count.Goals as goal

pub returns-clause-range : goal.returns-clause-range
unfolding update
returns-clause-range c name class segment value by setting state admits past =
    rw (admits.allowed, admits.there, past) refl

pub returns-clause-counted : goal.returns-clause-counted
unfolding update
returns-clause-counted c name class segment value by setting state admits within =
    let room : nat_le 0 state.budget.slots ≡ true = leb-zero state.budget.slots in
    let same : state.budget.slots - 0 ≡ state.budget.slots = omega arith in
    rw (admits.allowed, admits.there, within, room, same) refl

use Rattle.extent_plan.proofs.Changed.{first_written, later_written}
use Rattle.extent_plan.proofs.laws.changed_leaves_are_written.Goals as goal

pub returns-clause-first : goal.returns-clause-first
returns-clause-first c image since changed are = first_written image since changed are

pub returns-clause-later : goal.returns-clause-later
returns-clause-later c image since old places changed lie stored keeps are =
    later_written image since old places changed lie stored keeps are

use Rattle.extent_plan.proofs.Counts.{first_counted, later_counted}
use Rattle.extent_plan.proofs.laws.pages_are_counted.Goals as goal

pub returns-clause-first : goal.returns-clause-first
returns-clause-first c image since named = first_counted image named since

pub returns-clause-later : goal.returns-clause-later
returns-clause-later c image root old used places named are stored keeps many =
    later_counted image root.number old stored keeps named used places root.pages are many

-- The same state of a run with another budget.
use Rattle.running_objects.specs.object_programs.Budget.{Budget}
use Rattle.running_objects.specs.Seen.{Seen}

-- what is seen, with another budget
abbrev pub with_budget : Budget → Seen → Seen
with_budget budget seen = record seen { budget = budget }

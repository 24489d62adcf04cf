use Rattle.std.proofs.Common.{◌≡◌, true, take}
use Rattle.std.specs.List.{list_all}
use Rattle.object_guard.specs.Spelled.{is_entry}
use Rattle.object_guard.proofs.spelled.are_entries.Given as goal

-- the pairs before this place can stand there
abbrev pub invariant-loop-at : goal.invariant-loop-at
invariant-loop-at l = list_all is_entry (take l.at l.pairs) ≡ true

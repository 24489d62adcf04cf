use Rattle.std.proofs.Common.{◌≡◌, true, take}
use Rattle.std.specs.List.{list_all}
use Rattle.object_programs.specs.Spelled.{is_storable}
use Rattle.object_guard.proofs.spelled.are_waiting.Given as goal

-- the items before this place can be stored
abbrev pub invariant-loop-at : goal.invariant-loop-at
invariant-loop-at l = list_all is_storable (take l.at l.queue.items) ≡ true

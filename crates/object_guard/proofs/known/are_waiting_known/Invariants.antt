use Rattle.std.proofs.Common.{◌≡◌, true, take}
use Rattle.std.specs.List.{list_all}
use Rattle.running_objects.specs.Fitting.{is_known_value}
use Rattle.object_guard.proofs.known.are_waiting_known.Given as goal

-- the objects are there to which the items before this place refer
abbrev pub invariant-loop-at : goal.invariant-loop-at
invariant-loop-at g l = list_all (is_known_value (g.S.Sees.parts l.state)) (take l.at l.queue.items) ≡ true

use Rattle.std.proofs.Common.{◌≡◌, true, take}
use Rattle.std.specs.List.{list_all}
use Rattle.object_guard.specs.Known.{is_known_pair}
use Rattle.object_guard.proofs.known.are_pairs_known.Given as goal

-- the objects are there to which the pairs before this place refer
abbrev pub invariant-loop-at : goal.invariant-loop-at
invariant-loop-at g l = list_all (is_known_pair (g.S.Sees.parts l.state)) (take l.at l.pairs) ≡ true

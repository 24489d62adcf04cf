use Rattle.std.proofs.Common.{◌≡◌, true, take}
use Rattle.std.specs.List.{list_all}
use Rattle.object_guard.proofs.known.are_known.Given as goal

-- the objects are there to which the items before this one refer
abbrev pub invariant-loop-item : goal.invariant-loop-item
invariant-loop-item g l = list_all (g.T.Refers.known (g.S.Sees.parts l.state)) (take l.item-index l.items) ≡ true

use Rattle.std.proofs.Common.{◌≡◌, take}
use Rattle.prim_shared.proofs.lists.waiting_in.Given as goal

-- the items before this place
abbrev pub invariant-loop-at : goal.invariant-loop-at
invariant-loop-at l = l.values.items ≡ take l.at l.queue.items

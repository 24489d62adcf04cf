use Rattle.std.proofs.Common.{◌≡◌, ◌++◌, replicate}
use Rattle.prim_shared.proofs.lists.push_times.Given as goal

-- the item came so many times
abbrev pub invariant-loop-turn : goal.invariant-loop-turn
invariant-loop-turn l = l.values.items ≡ l.initial.values.items ++ replicate l.turn l.item

use Rattle.std.proofs.Common.{◌≡◌, take, length}
use Rattle.list_stack.proofs.stack.cut.Given as goal

abbrev pub decreases-loop-items : goal.decreases-loop-items
decreases-loop-items g l = length l.items.items

abbrev pub invariant-loop-items : goal.invariant-loop-items
invariant-loop-items g l = take l.count l.items.items ≡ take l.count l.initial.items.items

use Rattle.list_stack.specs.Moves.{PoppedBy}
use Rattle.list_stack.proofs.stack.pop_onto.Given as goal

abbrev pub invariant-loop-item : goal.invariant-loop-item
invariant-loop-item g l = PoppedBy l.initial.to.items l.initial.from.items l._item l.to.items l.from.items

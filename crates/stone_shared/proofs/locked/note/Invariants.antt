use Rattle.std.proofs.Common.{◌≡◌, ◌++◌, take}
use Rattle.stone_shared.proofs.locked.note.Given as goal

abbrev pub invariant-loop-event : goal.invariant-loop-event
invariant-loop-event l = l.pen ≡ record l.fn.pen { list = l.fn.pen.list ++ take l.event-index l.event-items }

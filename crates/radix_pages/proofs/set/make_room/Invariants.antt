use Rattle.std.proofs.Common.{◌-◌, vec_len}
use Rattle.radix_pages.specs.Node.{SameSlots}
use Rattle.radix_pages.proofs.set.make_room.Given as goal

abbrev pub invariant-loop-slots : goal.invariant-loop-slots
invariant-loop-slots g l = SameSlots l.wanted l.initial.slots.items l.slots.items

abbrev pub decreases-loop-slots : goal.decreases-loop-slots
decreases-loop-slots g l = l.wanted - vec_len l.slots

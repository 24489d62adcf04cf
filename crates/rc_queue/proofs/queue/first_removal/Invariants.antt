use Rattle.std.proofs.Common.{◌≡◌, drop}
use Rattle.rc_queue.specs.Update.{first_removal}
use Rattle.rc_queue.proofs.queue.first_removal.Given as goal

-- the first removal of all is that of the updates which are left
abbrev pub invariant-loop-at : goal.invariant-loop-at
invariant-loop-at g l = first_removal l.at (drop l.at l.updates) ≡ first_removal 0 l.updates

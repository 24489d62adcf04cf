use Rattle.std.proofs.Common.{◌≡◌, drop}
use Rattle.rc_queue.specs.Update.{replayed}
use Rattle.rc_queue.proofs.queue.Queue.replay.Given as goal

-- the updates that are left do to the queue what all of them do to the queue at the start
abbrev pub invariant-loop-at : goal.invariant-loop-at
invariant-loop-at g l = replayed g.T.Ord.cmp l.at (drop l.at l.updates) l.self ≡ replayed g.T.Ord.cmp 0 l.updates l.initial.self

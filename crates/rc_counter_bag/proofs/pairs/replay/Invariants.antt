use Rattle.std.proofs.Common.{◌≡◌, drop}
use Rattle.rc_counter_bag.specs.Bag.{IsBag, replayed}
use Rattle.rc_counter_bag.proofs.pairs.replay.Given as goal

-- the updates that are left do to the pairs what all of them do to the pairs at the start
abbrev pub invariant-loop-at : goal.invariant-loop-at
invariant-loop-at g l = record {
  bag : IsBag g.T.Ord.cmp l.pairs.items;
  left : replayed g.T.Ord.cmp l.at (drop l.at l.updates) l.pairs.items ≡ replayed g.T.Ord.cmp 0 l.updates l.initial.pairs.items;
}

use Rattle.std.proofs.Common.{◌≡◌, drop}
use Rattle.rc_dict.specs.Dict.{first_changed}
use Rattle.rc_dict.proofs.pairs.first_changed.Given as goal

-- the first change of all is that of the updates which are left
abbrev pub invariant-loop-at : goal.invariant-loop-at
invariant-loop-at g l = first_changed g.K.Ord.cmp g.T.Ord.cmp l.view l.place l.at (drop l.at l.updates) ≡ first_changed g.K.Ord.cmp g.T.Ord.cmp l.view l.place 0 l.updates

use Rattle.std.proofs.Common.{◌≡◌, drop}
use Rattle.rc_dict.specs.Dict.{IsDict, all_settled}
use Rattle.rc_dict.proofs.pairs.settle.Given as goal

-- the updates that are left do to the pairs what all of them do to the pairs at the start
abbrev pub invariant-loop-update : goal.invariant-loop-update
invariant-loop-update g l = record {
  dict : IsDict g.K.Ord.cmp l.pairs.items;
  left : all_settled g.K.Ord.cmp (drop l.update-index l.updates) l.pairs.items ≡ all_settled g.K.Ord.cmp l.updates l.initial.pairs.items;
}

use Rattle.std.proofs.Common.{◌≡◌, ◌++◌, take}
use Rattle.std.specs.List.{flat_map}
use Rattle.body_codec.specs.Spelled.{spelled_pair}
use Rattle.body_codec.proofs.items.put_pairs.Given as goal

-- the pairs before this place are added
abbrev pub invariant-loop-at : goal.invariant-loop-at
invariant-loop-at l = l.out.items
    ≡ l.initial.out.items ++ flat_map spelled_pair (take l.at l.pairs)

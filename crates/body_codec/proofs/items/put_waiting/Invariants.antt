use Rattle.std.proofs.Common.{◌≡◌, ◌++◌, take}
use Rattle.std.specs.List.{flat_map}
use Rattle.body_codec.specs.Spelled.{spelled_value}
use Rattle.body_codec.proofs.items.put_waiting.Given as goal

-- the items before this place are added
abbrev pub invariant-loop-at : goal.invariant-loop-at
invariant-loop-at l = l.out.items
    ≡ l.initial.out.items ++ flat_map spelled_value (take l.at l.queue.items)

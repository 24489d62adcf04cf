use Rattle.std.proofs.Common.{◌≡◌, ◌-◌, []}
use Rattle.body_codec.specs.Reading.{items_after}
use Rattle.body_codec.specs.ReadingBodies.{pair_at}
use Rattle.body_codec.proofs.read_lists.read_pairs.Given as goal

-- what is left gives with what was read what all gives
abbrev pub invariant-loop : goal.invariant-loop
invariant-loop l = items_after pair_at (l.count - l.counter) l.pairs l.rest
    ≡ items_after pair_at l.count [] l.bytes

use Rattle.std.proofs.Common.{◌≡◌, ◌-◌, []}
use Rattle.body_codec.specs.Reading.{items_after}
use Rattle.body_codec.proofs.read_items.read_items.Given as goal

-- what is left gives with what was read what all gives
abbrev pub invariant-loop : goal.invariant-loop
invariant-loop g l =
    items_after (g.R.ItemReader.item_at l.reader) (l.count - l.counter) l.items.items l.rest
    ≡ items_after (g.R.ItemReader.item_at l.reader) l.count [] l.bytes

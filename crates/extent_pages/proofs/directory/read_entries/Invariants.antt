use Rattle.std.proofs.Common.{◌≡◌, ◌-◌, []}
use Rattle.body_codec.specs.Reading.{items_after}
use Rattle.extent_pages.specs.Contents.{entry_at}
use Rattle.extent_pages.proofs.directory.read_entries.Given as goal

-- what is left gives with what was read what all gives
abbrev pub invariant-loop : goal.invariant-loop
invariant-loop l = items_after entry_at (l.count - l.counter) l.entries.items l.rest
    ≡ items_after entry_at l.count [] l.bytes

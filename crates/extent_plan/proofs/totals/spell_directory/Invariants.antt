use Rattle.std.proofs.Common.{◌≡◌, ◌++◌, length}
use Rattle.std.specs.List.{flat_map}
use Rattle.body_codec.specs.Spelled.{four_bytes}
use Rattle.extent_pages.specs.Spelled.{spelled_entry}
use Rattle.extent_plan.specs.Totals.{entries_at}
use Rattle.extent_plan.proofs.totals.spell_directory.Given as goal

abbrev pub invariant-loop-place : goal.invariant-loop-place
invariant-loop-place l = l.bytes.items ++ flat_map spelled_entry (entries_at l.rest)
    ≡ four_bytes (length l.places) ++ flat_map spelled_entry (entries_at l.places)

abbrev pub decreases-loop-place : goal.decreases-loop-place
decreases-loop-place l = length l.rest

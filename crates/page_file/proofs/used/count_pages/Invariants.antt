use Rattle.std.proofs.Common.{◌≡◌, ◌+◌, ◌-◌, ◌^◌, ◌≤◌, min, length}
use Rattle.extent_plan.specs.Totals.{pages_at}
use Rattle.page_file.proofs.used.count_pages.Given as goal

abbrev pub invariant-loop-place : goal.invariant-loop-place
invariant-loop-place l = (l.count ≤ 2 ^ 64 - 1) × (min (l.count + pages_at l.rest) (2 ^ 64 - 1) ≡ min (pages_at l.places) (2 ^ 64 - 1))

abbrev pub decreases-loop-place : goal.decreases-loop-place
decreases-loop-place l = length l.rest

use Rattle.std.proofs.Common.{ℕ, ◌+◌, ◌^◌, ◌<◌, List, length}
use Rattle.std.specs.List.{AllByRecursion}
use Rattle.extent_pages.specs.Extent.{Leaf}
use Rattle.extent_plan.specs.Plan.{ArePlaces}
use Rattle.extent_plan.specs.Drafts.{Sharing}
use Rattle.extent_plan.specs.Needed.{numbers_at, AreToWrite}
use Rattle.extent_plan.proofs.Tallies.{Counted}
use Rattle.extent_plan.proofs.Drafting.{Drafting}
use Rattle.extent_plan.proofs.draft.draft_leaves.Given as goal

abbrev pub invariant-loop-place : goal.invariant-loop-place
invariant-loop-place l = record {
  low : AllByRecursion (λ leaf. leaf < 2 ^ 42) l.left;
  counted : (since : ℕ) → AreToWrite l.image since (numbers_at l.kept) l.changed
      → Counted l.image since (numbers_at l.kept) l.changed l.places l.left l.drafts.items;
  drafting : (since : ℕ) (old : List Leaf) → AreToWrite l.image since (numbers_at l.kept) l.changed
      → ArePlaces l.kept old → Sharing l.image since old
      → Drafting l.image (numbers_at l.kept) l.changed old l.places l.left l.drafts.items;
}

abbrev pub decreases-loop-place : goal.decreases-loop-place
decreases-loop-place l = length l.places + length l.left

use Rattle.std.proofs.Common.{◌≡◌, ◌+◌, ◌-◌, ◌^◌, ◌≤◌, min, length}
use Rattle.extent_plan.specs.Laying.{pages_of_drafts}
use Rattle.extent_plan.proofs.lay.pages_of.Given as goal

abbrev pub invariant-loop-draft : goal.invariant-loop-draft
invariant-loop-draft l = (l.count ≤ 2 ^ 64 - 1)
    × (min (l.count + pages_of_drafts l.rest) (2 ^ 64 - 1) ≡ min (pages_of_drafts l.drafts) (2 ^ 64 - 1))

abbrev pub decreases-loop-draft : goal.decreases-loop-draft
decreases-loop-draft l = length l.rest

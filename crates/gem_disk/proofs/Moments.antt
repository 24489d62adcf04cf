-- How a run of disk calls goes on, one call after another.
use Rattle.std.proofs.Common.{◌⊎◌, ℕ, List, [], ◌∷◌, length, inl, inr, ⊎_elim, arith}
use Rattle.gem_disk.specs.declared.disk.Which.{Which}
use Rattle.gem_disk.specs.Disk.{Files, Change, Step, Past, moment, stepped, CrashImages, ImagesAfter, CrashImagesSince}
use Rattle.gem_disk.specs.Runs.{LeavesOnly}

-- a crash now is one of those since an earlier moment
pub now_counts : (since : ℕ) (past : Past) (images : Files) → CrashImages past images → CrashImagesSince since past images
now_counts since past images now = counts past.steps now
  where
    counts : (steps : List Step) → CrashImages (record { first = past.first; steps = steps }) images → ImagesAfter since past.first steps images
    counts [] now = now
    counts (step ∷ older) now = inl now

-- since this moment there is no other
pub only_now : (past : Past) (images : Files) → CrashImagesSince (moment past) past images → CrashImages past images
only_now past images left = only past.steps left
  where
    only : (steps : List Step) → ImagesAfter (length steps) past.first steps images → CrashImages (record { first = past.first; steps = steps }) images
    only [] left = left
    only (step ∷ older) (inl now) = now
    only (step ∷ older) (inr (later, rest)) = absurd (omega (arith, later))

-- before the first call
pub started : (past : Past) (P : Files → Type 0) → ((images : Files) → CrashImages past images → P images) → LeavesOnly past past P
started past P here = record {
  later = omega arith;
  each = λ images left. here images (only_now past images left);
  before = λ since images le left. inl left;
}

-- one step more, after which a crash leaves only what has P
pub goes_on : (old mid : Past) (file : Which) (change : Change) (bytes : List ℕ) (P : Files → Type 0) → LeavesOnly old mid P
    → ((images : Files) → CrashImages (stepped mid file change bytes) images → P images) → LeavesOnly old (stepped mid file change bytes) P
goes_on old mid file change bytes P run here = record {
  later = omega (arith, run.later);
  each = λ images left. ⊎_elim (here images) (λ earlier. run.each images earlier.1) left;
  before = λ since images le left. ⊎_elim (λ now. inr (here images now)) (λ earlier. run.before since images le earlier.1) left;
}

-- a run, and another after it
pub and_then : (old mid new : Past) (P : Files → Type 0) → LeavesOnly old mid P → LeavesOnly mid new P → LeavesOnly old new P
and_then old mid new P run more = record {
  later = omega (arith, run.later, more.later);
  each = λ images left. ⊎_elim (run.each images) (λ has. has) (more.before (moment old) images run.later left);
  before = λ since images le left.
      ⊎_elim (run.before since images le) (λ has. inr has) (more.before since images (omega (arith, le, run.later)) left);
}

-- a run that leaves less
pub leaves_less : (old new : Past) (P Q : Files → Type 0) → ((images : Files) → P images → Q images)
    → LeavesOnly old new P → LeavesOnly old new Q
leaves_less old new P Q less run = record {
  later = run.later;
  each = λ images left. less images (run.each images left);
  before = λ since images le left. ⊎_elim (λ earlier. inl earlier) (λ has. inr (less images has)) (run.before since images le left);
}

-- What crashes leave during a run of disk calls.
use Rattle.std.specs.Prelude.{◌⊎◌, ℕ, ◌≤◌}
use Rattle.gem_disk.specs.Disk.{Files, Past, moment, CrashImagesSince}

-- From old to new a crash at any moment, the first and the last included, leaves only what has P.
pub record LeavesOnly (old new : Past) (P : Files → Type 0) : Type 0 where
  pub later : moment old ≤ moment new
  pub each : (images : Files) → CrashImagesSince (moment old) new images → P images
  -- for a run that began earlier
  pub before : (since : ℕ) (images : Files) → since ≤ moment old
      → CrashImagesSince since new images → CrashImagesSince since old images ⊎ P images

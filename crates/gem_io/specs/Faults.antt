-- Counts of faults. A count stays at the end of its type, and then counts as risen in each call.
use Rattle.std.specs.Prelude.{◌≡◌, ℕ, ◌+◌, ◌-◌, ◌^◌, ◌≤◌, min, Result, OnOk, OnErr}

-- the last value of a count
abbrev pub last_count : ℕ
last_count = 2 ^ 64 - 1

-- the count after one more
abbrev pub next_count : ℕ → ℕ
next_count n = min (n + 1) last_count

-- the count rose from before to after, or stands at its end
abbrev pub HasRisen : ℕ → ℕ → Type 0
HasRisen before after = next_count before ≤ after

-- A count of faults before a call and after it: it never falls, rises in a call that fails, and
-- stays in one that doesn't.
pub record HasCause {T E : Type 0} (before after : ℕ) (result : Result T E) : Type 0 where
  pub later : before ≤ after
  pub cause : OnErr result (HasRisen before after)
  pub quiet : OnOk result (after ≡ before)

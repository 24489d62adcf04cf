-- What contracts see of a disk in memory, and when its calls fail.
use Rattle.std.specs.Prelude.{◌≡◌, ℕ, ◌+◌, ◌-◌, min, Bool, false, ◌||◌, ◌==◌, Option, Some, None, Result, MatchResult, MatchBool, IsErr, IsOk}
use Rattle.gem_io.specs.Faults.{next_count, last_count}
use Rattle.gem_disk.specs.Disk.{Past}

-- A disk in memory: what became of it, how many calls pass until all fail, where they are to, which
-- call from now on is to fail (the next is 1, and 0 is none), the count of failures by these two,
-- and the count of failures where memory ran out.
pub record Memory : Type 0 where
  pub past : Past
  pub passes : Option ℕ
  pub fails_in : ℕ
  pub refused : ℕ
  pub starved : ℕ

-- no call passes any more
abbrev pub is_spent : Option ℕ → Bool
is_spent None = false
is_spent (Some left) = left == 0

-- how many calls pass after one more
abbrev pub one_less : Option ℕ → Option ℕ
one_less None = None
one_less (Some left) = Some (left - 1)

-- whether the next call is to fail
abbrev pub fails_next : Option ℕ → ℕ → Bool
fails_next passes fails_in = is_spent passes || (fails_in == 1)

-- all failures, of both kinds
abbrev pub failures_of : Memory → ℕ
failures_of m = min (m.refused + m.starved) last_count

-- the disk after a call that passed
abbrev pub after_call : Memory → Memory
after_call m = record m { passes = one_less m.passes; fails_in = m.fails_in - 1 }

-- the disk after a call that was to fail
abbrev pub after_refusal : Memory → Memory
after_refusal m = record (after_call m) { refused = next_count m.refused }

-- the disk after a call that found no memory
abbrev pub after_want : Memory → Memory
after_want m = record (after_call m) { starved = next_count m.starved }

-- the disk after a call that changed a file
abbrev pub after_change : Past → Memory → Memory
after_change past m = record (after_call m) { past = past }

-- A call that only reads fails exactly where it is to fail.
abbrev pub Answers : {T E : Type 0} → Memory → Result T E → Memory → Type 0
Answers old result new = MatchBool (fails_next old.passes old.fails_in)
    (IsErr result × (new ≡ after_refusal old))
    (IsOk result × (new ≡ after_call old))

-- A call that changes a file fails where it is to fail, and else only for want of memory. It
-- changes nothing then. Otherwise it does all of it.
abbrev pub Changes : {T E : Type 0} → Memory → Result T E → Past → Memory → Type 0
Changes old result past new = MatchBool (fails_next old.passes old.fails_in)
    (IsErr result × (new ≡ after_refusal old))
    (MatchResult result (λ _. new ≡ after_change past old) (λ _. new ≡ after_want old))

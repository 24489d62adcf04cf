-- What contracts see of the devices in memory. Calls are counted from 1.
use Rattle.std.specs.Prelude.{◌≡◌, ℕ, ◌+◌, min, Bool, ◌==◌, List, ◌++◌, length, drop, Result, MatchResult, MatchBool, IsErr, IsOkAnd}
use Rattle.std.specs.List.{list_any}
use Rattle.gem_io.specs.Faults.{next_count, last_count}

-- A source: what is left, the calls so far, the numbers of the calls that are to fail, and the
-- count of failures.
pub record Reading : Type 0 where
  pub left : List ℕ
  pub calls : ℕ
  pub fails : List ℕ
  pub failures : ℕ

-- A sink: the bytes that it took, the calls so far, the numbers of the calls that are to fail, the
-- count of failures by these numbers, and the count of failures where memory ran out.
pub record Writing : Type 0 where
  pub written : List ℕ
  pub calls : ℕ
  pub fails : List ℕ
  pub refused : ℕ
  pub starved : ℕ

-- whether the next call, after this number of calls, is one of those that are to fail
abbrev pub is_to_fail : List ℕ → ℕ → Bool
is_to_fail fails calls = list_any (λ number. number == next_count calls) fails

-- all failures of a sink, of both kinds
abbrev pub failures_of : Writing → ℕ
failures_of w = min (w.refused + w.starved) last_count

-- a source after a call that gave n bytes
abbrev pub after_pull : ℕ → Reading → Reading
after_pull n old = record old { left = drop n old.left; calls = next_count old.calls }

-- a source after a call that failed
abbrev pub after_failure : Reading → Reading
after_failure old =
    record old { calls = next_count old.calls; failures = next_count old.failures }

-- The next call of a source, with room for this number of bytes: it fails exactly where it is to
-- fail, and then the bytes stay. Otherwise it moves as many bytes as there are and as there is room
-- for.
abbrev pub Pulls : {E : Type 0} → Reading → ℕ → Result ℕ E → Reading → Type 0
Pulls old room result new = MatchBool (is_to_fail old.fails old.calls)
    (IsErr result × (new ≡ after_failure old))
    (IsOkAnd result (λ n. (n ≡ min room (length old.left)) × (new ≡ after_pull n old)))

-- a sink after a call that took the piece
abbrev pub after_put : List ℕ → Writing → Writing
after_put piece old =
    record old { written = old.written ++ piece; calls = next_count old.calls }

-- a sink after a call that was to fail
abbrev pub after_refusal : Writing → Writing
after_refusal old = record old { calls = next_count old.calls; refused = next_count old.refused }

-- a sink after a call that found no memory
abbrev pub after_want : Writing → Writing
after_want old = record old { calls = next_count old.calls; starved = next_count old.starved }

-- The next call of a sink with this piece: it fails where it is to fail, and else only for want of
-- memory. The bytes stay then. Otherwise it takes the whole piece.
abbrev pub Puts : {E : Type 0} → Writing → List ℕ → Result ℕ E → Writing → Type 0
Puts old piece result new = MatchBool (is_to_fail old.fails old.calls)
    (IsErr result × (new ≡ after_refusal old))
    (MatchResult result
    (λ n. (n ≡ length piece) × (new ≡ after_put piece old))
    (λ _. new ≡ after_want old))

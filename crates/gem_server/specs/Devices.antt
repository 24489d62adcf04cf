-- Devices before and after a call.
use Rattle.std.specs.Prelude.{◌≡◌, ℕ, take, Option}
use Rattle.std.specs.Io.KnownBytes.{Appends}
use Rattle.gem_io.specs.Faults.{HasRisen}
use Rattle.gem_object.specs.texts.Bytes.{Bytes}

-- what a device told before a call and after it, and how often it had failed
pub record Seen (T : Type 0) : Type 0 where
  pub before : T
  pub after : T
  pub faults : ℕ
  pub faults_after : ℕ

-- it failed in the call
abbrev pub HasFailed : {T : Type 0} → Seen T → Type 0
HasFailed seen = HasRisen seen.faults seen.faults_after

-- the call didn't use it
pub record IsUnused {T : Type 0} (seen : Seen T) : Type 0 where
  pub same : seen.after ≡ seen.before
  pub quiet : seen.faults_after ≡ seen.faults

-- a sink took these bytes, or a part of them from the front
abbrev pub IsWritten : Seen (Option Bytes) → Bytes → Type 0
IsWritten sink bytes = Appends sink.before sink.after bytes

abbrev pub IsPartWritten : Seen (Option Bytes) → Bytes → Type 0
IsPartWritten sink bytes = (n : ℕ) × Appends sink.before sink.after (take n bytes)

-- a device, by what it tells and by its count of faults
abbrev pub seen : {A T : Type 0} → (A → T) → (A → ℕ) → (before after : A) → Seen T
seen shows faults before after = record {
  before = shows before;
  after = shows after;
  faults = faults before;
  faults_after = faults after;
}

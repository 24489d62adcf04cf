-- What a Stone's keeper has to do with its events.
use Rattle.std.specs.Prelude.{◌≡◌, ◌≤◌, ℕ, Bool, true, IsTrue, List, Option}
use Rattle.std.specs.Option.{option_to_list}
use Rattle.gem_io.specs.Faults.{HasRisen}
use Rattle.gem_record.specs.Stored.{Stored}
use Rattle.gem_meaning.specs.Opened.{Opened}
use Rattle.gem_meaning.specs.Events.{Event, Told, halts_in, IsRunning}
use Rattle.gem_meaning.specs.After.{stored_after}
use Rattle.gem_keeper.specs.Found.{Found}
use Rattle.gem_keeper.specs.Crashes.{FitsNow, KeepsOnly}
use Rattle.stone_core.specs.Crashes.{StandsAfter, MayBeLeft, MayBeLeftDuring, MayHaveBeenLeft}
use Rattle.stone_core.specs.declared.port.CommitAnswer.{CommitAnswer}
use Rattle.stone_core.specs.declared.port.CommitAnswer.TheVariants.{DiskFault, Placed}
use Rattle.stone_core.specs.declared.port.CheckAnswer.{CheckAnswer}
use Rattle.stone_core.specs.declared.port.CheckAnswer.TheVariants as check

-- A Stone as contracts see it: what it was opened with and its events, and its keeper as it was at
-- the start and as it is.
pub record Kept (K : Type 0) : Type 0 where
  pub told : Told
  pub started : K
  pub keeper : K

module _ {K : Type 0} (stored : K → Stored) (ready : K → Bool) (faults : K → ℕ) (tells : Bool)
    (moment : K → ℕ) (stands : K → Option Found) (left_since : K → ℕ → Option Found → Type 0) where
  -- The disk has failed since the start only where its count tells so. Where it hasn't, the keeper
  -- is ready, and has stored what the events say. Where the keeper tells what it stands for, that is
  -- what stands after the events, as long as the disk hasn't failed; what a crash at this moment may
  -- leave is that, too, or that with the commit in flight; and what one since the start may leave is
  -- what stood at some point of the events, or that with the commit in flight.
  pub record IsKept (t : Told) (started keeper : K) : Type 0 where
    pub later : faults started ≤ faults keeper
    pub cause : (IsRunning t.events → ⊥) → HasRisen (faults started) (faults keeper)
    pub is_ready : IsRunning t.events → ready keeper ≡ true
    pub has : IsRunning t.events → stored keeper ≡ stored_after t.opened t.events
    pub now : IsTrue tells → IsRunning t.events
        → FitsNow moment stands left_since keeper (StandsAfter t.opened t.events)
    pub crash : IsTrue tells → (left : Option Found) → left_since keeper (moment keeper) left
        → MayBeLeft t.opened t.events left
    pub since : IsTrue tells
        → KeepsOnly moment left_since started keeper (MayHaveBeenLeft t.opened t.events)

  -- The number at which the Stone has halted is the one that its events tell, if they tell one.
  pub record IsHalting (t : Told) (halted : Option ℕ) (started keeper : K) : Type 0 where
    pub halted_is : option_to_list halted ≡ halts_in t.events
    pub kept : IsKept t started keeper

-- What a commit does to the keeper, by its answer. Where the disk is said to have failed its count
-- has risen in this call, and where the commit is placed it hasn't. Any other answer leaves the
-- keeper as it was.
abbrev pub CommitKeeps : {K : Type 0} → (faults : K → ℕ) → (old new : K) → CommitAnswer → Type 0
CommitKeeps faults old new (Placed number) = faults new ≡ faults old
CommitKeeps faults old new DiskFault = HasRisen (faults old) (faults new)
CommitKeeps faults old new _ = new ≡ old

-- The same of a checkpoint.
abbrev pub CheckKeeps : {K : Type 0} → (faults : K → ℕ) → (old new : K) → CheckAnswer → Type 0
CheckKeeps faults old new (check.Made number) = faults new ≡ faults old
CheckKeeps faults old new check.DiskFault = HasRisen (faults old) (faults new)
CheckKeeps faults old new _ = new ≡ old

-- A call found these events and ended with those. Where the keeper tells what it stands for:
module _ {K : Type 0} (tells : Bool) (moment : K → ℕ) (left_since : K → ℕ → Option Found → Type 0)
    (o : Opened) (before after : List Event) (old new : K) where
  -- each crash in the call leaves what one before it may, or one after it
  abbrev pub HoldsDuring : Type 0
  HoldsDuring = IsTrue tells → KeepsOnly moment left_since old new (MayBeLeftDuring o before after)

  -- so it is where a commit was stored, or was to be. Any other answer leaves the keeper as it was
  abbrev pub CommitHolds : CommitAnswer → Type 0
  CommitHolds (Placed number) = HoldsDuring
  CommitHolds DiskFault = HoldsDuring
  CommitHolds _ = Unit {0}

  -- the same of a checkpoint
  abbrev pub CheckHolds : CheckAnswer → Type 0
  CheckHolds (check.Made number) = HoldsDuring
  CheckHolds check.DiskFault = HoldsDuring
  CheckHolds _ = Unit {0}

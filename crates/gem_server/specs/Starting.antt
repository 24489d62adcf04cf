-- What a run over a store starts with.
use Rattle.std.specs.Prelude.{◌≡◌, ◌+◌, ◌<◌, ◌≤◌, ◌⊎◌, ℕ, Bool, true, IsTrue, List, length, is_some}
use Rattle.gem_disk.specs.Disk.{Past, as_read}
use Rattle.shell_words.specs.Script.{SessionCommands}
use Rattle.stone_store.specs.Store.{store_of}
use Rattle.stone_store.specs.Opening.{IsFound, IsFlawed}
use Rattle.stone_store.specs.Resting.{stored_by}
use Rattle.stone_store.specs.Whole.{StoreOf, store_moment, store_stands, store_left}
use Rattle.stone_store.specs.declared.parts.FoundImage.{FoundImage}
use Rattle.gem_record.specs.Stored.{Stored}
use Rattle.gem_meaning.specs.Opened.{largest_serial}
use Rattle.gem_meaning.specs.Serial.{most_at_opening, serial_limit}
use Rattle.script_run.specs.declared.run.Start.{Start}
use Rattle.script_run.specs.Run.{opened_by, CanRun}
use Rattle.gem_server.specs.declared.status.Status.{Status}
use Rattle.gem_server.specs.declared.status.Status.TheVariants.{NotStore, SerialsUsed, DiskFault, NoMemory}
use Rattle.gem_server.specs.declared.opening.Refused.{Refused}
use Rattle.gem_server.specs.Devices.{seen, HasFailed}
use Rattle.gem_server.specs.Course.{Stays, IsOpenedOn}

-- There are serials for the sessions of this script, from the base on, and numbers for what they
-- commit.
pub record HasRoom (found : FoundImage) (script : List SessionCommands) (base : ℕ) : Type 0 where
  pub base_is : base ≡ largest_serial found.image + 1
  pub serials : base + length script ≤ serial_limit
  pub number : found.number ≤ most_at_opening

-- there are not: so many sessions would have to begin at this base
pub record IsFull (found : FoundImage) (script : List SessionCommands) (base sessions : ℕ)
    : Type 0 where
  pub base_is : base ≡ largest_serial found.image + 1
  pub sessions_are : sessions ≡ length script
  pub why : (serial_limit < base + sessions) ⊎ (most_at_opening < found.number)

-- the numbers of a store that wasn't opened
abbrev pub IsUnopened : (first base : ℕ) → Type 0
IsUnopened first base = (first ≡ 0) × (base ≡ 0)

-- what a store has stored, and whether it is ready
abbrev pub kept_in : {D : Type 0} → StoreOf D → Stored
kept_in store = stored_by store.parts

abbrev pub is_open : {D : Type 0} → StoreOf D → Bool
is_open store = is_some store.parts

module _ {D : Type 0} (tells : Bool) (past : D → Past) (faults : D → ℕ) (disk : D)
    (script : List SessionCommands) where
  -- The store on the disk is open, the disk met no fault meanwhile, and the script can be run over
  -- what the store holds.
  pub record IsStarted (start : Start (StoreOf D)) : Type 0 where
    pub can_run : CanRun true kept_in is_open tells (store_moment past) (store_stands past)
        (store_left past) start script
    pub opened_on : IsOpenedOn tells (as_read (past disk)) (opened_by true kept_in start script)
    pub stays : Stays tells (seen past faults disk start.keeper.disk)
    pub quiet : faults start.keeper.disk ≡ faults disk

  -- Why it can't be. The two numbers are those of the store, where it was opened.
  abbrev pub IsWhyRefused : Status → (first base : ℕ) → (disk' : D) → Type 0
  IsWhyRefused (NotStore flaw) first base disk' = IsUnopened first base
      × (IsTrue tells → IsFlawed (store_of (as_read (past disk))) flaw)
  IsWhyRefused (SerialsUsed from sessions) first base disk' = (found : FoundImage)
      × IsFull found script from sessions × (first ≡ found.number) × (base ≡ from)
      × (IsTrue tells → IsFound (store_of (as_read (past disk))) found)
  IsWhyRefused DiskFault first base disk' = IsUnopened first base
      × HasFailed (seen past faults disk disk')
  IsWhyRefused NoMemory first base disk' = IsUnopened first base
  IsWhyRefused _ first base disk' = ⊥

  pub record IsRefused (refused : Refused D) : Type 0 where
    pub why : IsWhyRefused refused.status refused.first refused.base refused.disk
    pub stays : Stays tells (seen past faults disk refused.disk)

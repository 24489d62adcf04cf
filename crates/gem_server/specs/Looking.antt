-- Looking at a store, and making one.
use Rattle.std.specs.Prelude.{◌≡◌, ◌≢◌, ◌⊎◌, ◌++◌, ◌<◌, ◌≤◌, ℕ, Bool, true, IsTrue, codes, [], length, Option}
use Rattle.std.specs.Fmt.{decimal}
use Rattle.std.specs.FinMap.{len}
use Rattle.gem_object.specs.texts.Bytes.{Bytes}
use Rattle.gem_io.specs.Faults.{HasRisen}
use Rattle.gem_meaning.specs.Serial.{most_at_opening}
use Rattle.gem_disk.specs.Disk.{Files, Past, as_read, moment, CrashImagesSince}
use Rattle.gem_record.specs.Stored.{after_checkpoint}
use Rattle.kernel_image.specs.Objects.{kernel_image}
use Rattle.stone_store.specs.Store.{store_of}
use Rattle.stone_store.specs.Left.{FilesStandFor, StandsInAll}
use Rattle.stone_store.specs.Opening.{IsFound, IsFlawed}
use Rattle.stone_store.specs.Resting.{IsStoredIn}
use Rattle.stone_store.specs.declared.parts.FoundImage.{FoundImage}
use Rattle.gem_server.specs.declared.status.Status.{Status}
use Rattle.gem_server.specs.declared.status.Status.TheVariants.{Done, NotStore, SerialsUsed, NotEmpty, DiskFault, WriteFault, NoMemory}
use Rattle.gem_server.specs.Devices.{Seen, HasFailed, IsUnused, IsWritten, IsPartWritten}
use Rattle.gem_server.specs.Course.{Stays}

-- the line that tells of a store
abbrev pub line_with : (number count : ℕ) → Bytes
line_with number count =
    codes "store number " ++ (decimal number ++ (codes " objects " ++ (decimal count ++ codes "\n")))

abbrev pub store_line : FoundImage → Bytes
store_line found = line_with found.number (len found.image)

-- ---- Looking.

-- The line tells what the files hold.
pub record IsTold (tells : Bool) (files : Files) (found : FoundImage) : Type 0 where
  pub is : IsTrue tells → IsFound (store_of files) found

abbrev pub ChecksSo : Bool → Seen (Option Bytes) → Seen Past → Status → Type 0
ChecksSo tells sink disk Done = (found : FoundImage)
    × IsTold tells (as_read disk.before) found × IsWritten sink (store_line found)
ChecksSo tells sink disk WriteFault = (found : FoundImage)
    × IsTold tells (as_read disk.before) found × HasFailed sink
    × IsPartWritten sink (store_line found)
ChecksSo tells sink disk (NotStore flaw) = IsUnused sink
    × (IsTrue tells → IsFlawed (store_of (as_read disk.before)) flaw)
ChecksSo tells sink disk DiskFault = IsUnused sink × HasFailed disk
ChecksSo tells sink disk NoMemory = IsUnused sink
ChecksSo tells sink disk _ = ⊥

-- What the end says where a store was to be looked at: whatever it is, what the files hold stays.
pub record Checks (tells : Bool) (sink : Seen (Option Bytes)) (disk : Seen Past) (status : Status)
    : Type 0 where
  pub so : ChecksSo tells sink disk status
  pub stays : Stays tells disk
  pub sink_fault_told : sink.faults < sink.faults_after → status ≡ WriteFault
  pub later : sink.faults ≤ sink.faults_after

-- ---- Making.

-- both files are empty
abbrev pub AreEmpty : Files → Type 0
AreEmpty files = (files.extent ≡ []) × (files.log ≡ [])

-- the lengths of the files, one of which isn't 0; nothing was done
pub record AreLengths (tells : Bool) (disk : Seen Past) (extent log : ℕ) : Type 0 where
  pub some : (extent ≢ 0) ⊎ (log ≢ 0)
  pub extent_is : IsTrue tells → extent ≡ length (as_read disk.before).extent
  pub log_is : IsTrue tells → log ≡ length (as_read disk.before).log
  pub same : IsTrue tells → disk.after ≡ disk.before

-- why a store isn't made of these files
abbrev pub IsWhyNotEmpty : Bool → Seen Past → Status → Type 0
IsWhyNotEmpty tells disk (NotEmpty extent log) = AreLengths tells disk extent log
IsWhyNotEmpty tells disk DiskFault = HasFailed disk
IsWhyNotEmpty tells disk _ = ⊥

-- why the image with so many commits wasn't stored
abbrev pub IsWhyNotStored : (number before after : ℕ) → Status → Type 0
IsWhyNotStored number before after (SerialsUsed base sessions) = most_at_opening < number
IsWhyNotStored number before after DiskFault = HasRisen before after
IsWhyNotStored number before after NoMemory = Unit {0}
IsWhyNotStored number before after _ = ⊥

-- The files stand for the image of the kernel, which has no commit, in a root, behind which the log
-- is empty.
pub record IsNewStore (files : Files) : Type 0 where
  pub stands : FilesStandFor kernel_image 0 files
  pub stored : IsStoredIn files (after_checkpoint true kernel_image 0)

-- the new store is told: where the disk tells its contents, it is that of the kernel's image
pub record IsMade (tells : Bool) (disk : Seen Past) (found : FoundImage) : Type 0 where
  pub kernel : IsTrue tells → (found.image ≡ kernel_image) × (found.number ≡ 0)
  pub store : IsTrue tells → IsNewStore (as_read disk.after)

abbrev pub InitsSo : Bool → Seen (Option Bytes) → Seen Past → Status → Type 0
InitsSo tells sink disk Done = (found : FoundImage)
    × IsMade tells disk found × IsWritten sink (store_line found)
InitsSo tells sink disk WriteFault = (found : FoundImage)
    × IsMade tells disk found × HasFailed sink × IsPartWritten sink (store_line found)
InitsSo tells sink disk (NotEmpty extent log) = IsUnused sink × AreLengths tells disk extent log
InitsSo tells sink disk (NotStore flaw) = IsUnused sink × (IsTrue tells → ⊥)
InitsSo tells sink disk (SerialsUsed base sessions) = IsUnused sink × (IsTrue tells → ⊥)
InitsSo tells sink disk DiskFault = IsUnused sink × HasFailed disk
InitsSo tells sink disk NoMemory = IsUnused sink
InitsSo tells sink disk _ = ⊥

-- a status with which no store is made of files that aren't empty
abbrev pub RefusesFiles : Status → Type 0
RefusesFiles (NotEmpty extent log) = Unit {0}
RefusesFiles DiskFault = Unit {0}
RefusesFiles _ = ⊥

-- What the end says where a store was to be made. Files that aren't empty stay as they are, and the
-- status says so, unless the disk fails. Where both were empty, each crash since has left what stands
-- for the image of the kernel.
pub record Inits (tells : Bool) (sink : Seen (Option Bytes)) (disk : Seen Past) (status : Status)
    : Type 0 where
  pub so : InitsSo tells sink disk status
  pub empty : IsTrue tells → AreEmpty (as_read disk.before) → (extent log : ℕ)
      → status ≢ NotEmpty extent log
  pub not_empty : IsTrue tells → (AreEmpty (as_read disk.before) → ⊥)
      → RefusesFiles status × (disk.after ≡ disk.before)
  pub crash_since : IsTrue tells → AreEmpty (as_read disk.before)
      → StandsInAll disk.before kernel_image 0
      → (files : Files) → CrashImagesSince (moment disk.before) disk.after files
      → FilesStandFor kernel_image 0 files
  pub sink_fault_told : sink.faults < sink.faults_after → status ≡ WriteFault
  pub later : sink.faults ≤ sink.faults_after

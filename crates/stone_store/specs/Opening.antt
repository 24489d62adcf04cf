-- What opening a store gives.
use Rattle.std.specs.Prelude.{◌≡◌, ◌<◌, ◌≤◌, ℕ, length, Some, Result, Ok, Err}
use Rattle.std.specs.FinMap.{get}
use Rattle.gem_object.specs.declared.object.Object.{Object}
use Rattle.gem_disk.specs.declared.disk.Which.TheVariants.{Extent as OfExtent, Log as OfLog}
use Rattle.gem_disk.specs.Disk.{Past, reads}
use Rattle.gem_image.specs.Image.{objects_in}
use Rattle.gem_sound.specs.Sound.{IsSoundImage, BreaksFirst}
use Rattle.image_check.specs.declared.fault.SoundFault.{SoundFault}
use Rattle.image_check.specs.declared.fault.SoundFault.TheVariants as sound
use Rattle.image_check.specs.Faults.{rule_of}
use Rattle.extent_pages.specs.declared.fault.PageFault.{PageFault}
use Rattle.extent_pages.specs.declared.fault.PageFault.TheVariants as pages
use Rattle.extent_pages.specs.Extent.{extent_of}
use Rattle.tran_log.specs.declared.fault.LogFault.{LogFault}
use Rattle.tran_log.specs.declared.fault.LogFault.TheVariants as logs
use Rattle.tran_log.specs.Log.{log_of}
use Rattle.stone_store.specs.declared.fault.StoreFlaw.{StoreFlaw}
use Rattle.stone_store.specs.declared.fault.StoreFlaw.TheVariants as flaw
use Rattle.stone_store.specs.declared.fault.StoreFault.{StoreFault}
use Rattle.stone_store.specs.declared.fault.StoreFault.TheVariants as fault
use Rattle.stone_store.specs.declared.parts.FoundImage.{FoundImage}
use Rattle.stone_store.specs.Store.{Held, image_of, number_of}

-- ---- Faults of the parts, as faults of a store.

abbrev pub of_pages : PageFault → StoreFault
of_pages (pages.NotPages at rule) = fault.NotStore (flaw.Extent at rule)
of_pages pages.Disk = fault.Disk
of_pages pages.NoMemory = fault.NoMemory

abbrev pub of_log : LogFault → StoreFault
of_log (logs.NotLog at rule) = fault.NotStore (flaw.Log at rule)
of_log logs.Disk = fault.Disk
of_log logs.NoMemory = fault.NoMemory

abbrev pub of_sound : SoundFault → StoreFault
of_sound (sound.Broken oid rule) = fault.NotStore (flaw.Image oid rule)
of_sound sound.NoMemory = fault.NoMemory

-- ---- What is given, by what two files hold.

-- they hold an image with so many commits, and it is sound
pub record IsFound (store : Result Held StoreFlaw) (found : FoundImage) : Type 0 where
  pub held : Held
  pub store_is : store ≡ Ok held
  pub image_is : found.image ≡ image_of held
  pub number_is : found.number ≡ number_of held
  pub sound : IsSoundImage found.image

-- Sessions can go on with an image of so many commits: it is sound, and each object was changed by
-- one of these or counts as changed by none.
pub record MayGoOn (found : FoundImage) : Type 0 where
  pub sound : IsSoundImage found.image
  pub changed : (name : ℕ) (object : Object) → get found.image name ≡ Some object
      → object.changed ≤ found.number

-- They are no store for this flaw: it is the first one of the extent or of the log; or they hold an
-- image that isn't sound, and it is the first rule that its lowest unsound name breaks.
abbrev pub IsFlawed : Result Held StoreFlaw → StoreFlaw → Type 0
IsFlawed store (flaw.Extent at rule) = store ≡ Err (flaw.Extent at rule)
IsFlawed store (flaw.Log at rule) = store ≡ Err (flaw.Log at rule)
IsFlawed store (flaw.Image oid rule) = (held : Held) × (store ≡ Ok held)
    × BreaksFirst (objects_in (image_of held)) oid (rule_of rule)

abbrev pub OpensNot : Result Held StoreFlaw → StoreFault → Type 0
OpensNot store (fault.NotStore why) = IsFlawed store why
OpensNot store fault.Disk = Unit {0}
OpensNot store fault.NoMemory = Unit {0}

-- what opening gives is what the files hold, or why they are no store
abbrev pub Opens : Result Held StoreFlaw → Result FoundImage StoreFault → Type 0
Opens store (Ok found) = IsFound store found
Opens store (Err why) = OpensNot store why

-- ---- What stays.

-- Both files are read as before: the extent with its root, and each record of the log. A log of more
-- than one byte has the same bytes.
pub record ReadsSame (old new : Past) : Type 0 where
  pub extent : extent_of (reads new OfExtent) ≡ extent_of (reads old OfExtent)
  pub log : log_of (reads new OfLog) ≡ log_of (reads old OfLog)
  pub bytes : 1 < length (reads old OfLog) → reads new OfLog ≡ reads old OfLog
  pub short : length (reads old OfLog) ≤ 1 → length (reads new OfLog) ≤ 1

-- What was restored of both files of a store, between their reading and the answer.
use Rattle.std.specs.Prelude.{◌≡◌, ℕ, List, Option, Some, None, option_map, Result, Ok}
use Rattle.gem_disk.specs.Disk.{Past}
use Rattle.gem_image.specs.Image.{Image}
use Rattle.kernel_image.specs.Objects.{kernel_image}
use Rattle.extent_pages.specs.Extent.{Extent}
use Rattle.page_file.specs.Opening.{IsUnchanged}
use Rattle.page_file.specs.PageFile.{IsAtRest as ExtentRests}
use Rattle.page_file.specs.Changing.{counted_root}
use Rattle.tran_log.specs.declared.logged.Logged.{Logged}
use Rattle.tran_log.specs.Reads.{AreRead}
use Rattle.tran_log.specs.Resting.{IsAtRest as LogRests}
use Rattle.stone_store.specs.declared.fault.StoreFlaw.{StoreFlaw}
use Rattle.stone_store.specs.declared.parts.Parts.{Parts}
use Rattle.stone_store.specs.declared.records.Restored.{Restored}
use Rattle.stone_store.specs.Store.{Held, held_over, root_image, root_number, records_after, misfit, with_records, last_number}
use Rattle.stone_store.specs.Resting.{stored_root}

-- What was restored is the image of a root with all of these records behind it, and the place of the
-- record for which they don't fit there, if there is one.
pub record IsRestored (first : Image) (root : ℕ) (logged : List Logged) (restored : Restored) : Type 0
  where
    pub image_is : restored.found.image ≡ with_records first (records_after root logged)
    pub number_is : restored.found.number ≡ last_number root (records_after root logged)
    pub misfit_is : restored.misfit ≡ option_map (λ (one : Logged). one.at) (misfit root logged)

-- the same of some root and some records, whatever the disk tells
pub record IsFromRecords (restored : Restored) : Type 0 where
  pub first : Image
  pub root : ℕ
  pub logged : List Logged
  pub unchanged : IsUnchanged first
  pub read : AreRead logged
  pub restored_is : IsRestored first root logged restored

-- the image of a root, or the kernel's
abbrev pub image_read : Option Image → Image
image_read None = kernel_image
image_read (Some image) = image

-- both files are at rest, and this was restored of them
pub record RestsAs (past : Past) (parts : Parts) (restored : Restored) : Type 0 where
  pub root : Option Extent
  pub logged : List Logged
  pub extent : ExtentRests past parts.pages root
  pub log : LogRests past logged parts.log
  pub restored_is : IsRestored (root_image root) (root_number root) logged restored
  pub counted : option_map stored_root parts.root ≡ counted_root root

-- what two files hold of which this was restored
abbrev pub IsStoreOf : Restored → Result Held StoreFlaw → Type 0
IsStoreOf restored store = (root : Option Extent) × (logged : List Logged)
    × IsRestored (root_image root) (root_number root) logged restored
    × (store ≡ held_over root (Ok logged))

-- What an open extent says of its disk.
use Rattle.std.specs.Prelude.{◌≡◌, ℕ, List, Option, Some, None, Result, Ok, Err}
use Rattle.gem_disk.specs.declared.disk.Which.TheVariants.{Extent as OfExtent}
use Rattle.gem_disk.specs.Disk.{Past, reads}
use Rattle.gem_image.specs.Image.{Image}
use Rattle.disk_pieces.specs.Crashes.{IsDurable}
use Rattle.extent_pages.specs.declared.fault.PageFault.{PageFault}
use Rattle.extent_pages.specs.Pages.{Fault}
use Rattle.extent_pages.specs.Extent.{Extent, image_in, selected, extent_of}
use Rattle.extent_pages.specs.Stored.{IsStoredExtent}
use Rattle.extent_pages.specs.Reads.{IsFault}
use Rattle.extent_plan.specs.Plan.{ArePlaces}
use Rattle.page_file.specs.declared.file.Current.{Current}
use Rattle.page_file.specs.declared.file.PageFile.{PageFile}

-- the current root and its leaves lie where the extent does, with their numbers and counts
pub record IsCurrent (file : List ℕ) (current : Current) (extent : Extent) : Type 0 where
  pub page : current.page ≡ selected file
  pub number : current.number ≡ extent.number
  pub directory : current.directory.items ≡ extent.directory
  pub leaves : ArePlaces current.leaves.items extent.leaves
  pub stored : IsStoredExtent extent

-- the same of an extent that may have no checkpoint
abbrev pub AreLists : List ℕ → Option Current → Option Extent → Type 0
AreLists file None None = Unit {0}
AreLists file None (Some extent) = ⊥
AreLists file (Some current) None = ⊥
AreLists file (Some current) (Some extent) = IsCurrent file current extent

-- The extent of a disk stands for this, or for no checkpoint, all of it on the disk, and the open
-- extent says where it lies.
pub record IsAtRest (past : Past) (pages : PageFile) (before : Option Extent) : Type 0 where
  pub stands : extent_of (reads past OfExtent) ≡ Ok before
  pub durable : IsDurable past
  pub lists : AreLists (reads past OfExtent) pages.current before

-- The image of the root and its number are those of what was read: none and 0 where there is no
-- checkpoint.
abbrev pub AreFound : Option Image → ℕ → Option Extent → Type 0
AreFound None number None = number ≡ 0
AreFound None number (Some extent) = ⊥
AreFound (Some image) number None = ⊥
AreFound (Some image) number (Some extent) = (image ≡ image_in extent) × (number ≡ extent.number)

-- what opening gives is what was read, or its fault
abbrev pub Opens : Result (PageFile × Option Image × ℕ) PageFault → Past
    → Result (Option Extent) Fault → Type 0
Opens (Ok found) past read = (before : Option Extent) × (read ≡ Ok before)
    × AreFound found.1 found.2 before × IsAtRest past found.0 before
Opens (Err fault) past read = IsFault fault read

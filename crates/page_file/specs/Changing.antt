-- A checkpoint of an image over an open extent.
use Rattle.std.specs.Prelude.{◌≡◌, ℕ, ◌-◌, ◌^◌, ◌≤◌, ◌<◌, nat_lt, min, true, if◌then◌else◌, List, length, Option, Some, None, option_map, Result, Ok, Err}
use Rattle.std.specs.FinMap.{entries}
use Rattle.gem_disk.specs.Disk.{Past}
use Rattle.gem_disk.specs.declared.disk.Which.TheVariants.{Extent as OfExtent}
use Rattle.gem_disk.specs.Disk.{reads}
use Rattle.gem_image.specs.Image.{Image}
use Rattle.gem_record.specs.Stored.{Root, pages_over, after_checkpoint}
use Rattle.extent_pages.specs.Extent.{Extent, image_in, pages_of_leaves, pages_used}
use Rattle.extent_pages.specs.Pages.{most_pages, is_one_of}
use Rattle.extent_plan.specs.Drafts.{Sharing}
use Rattle.extent_plan.specs.Runs.{AscendFrom}
use Rattle.page_file.specs.declared.file.Current.{Current}
use Rattle.extent_pages.specs.Stored.{AreStored, IsStoredExtent}
use Rattle.extent_plan.specs.declared.plan.Plan.{Plan}
use Rattle.extent_plan.specs.declared.plan.PlanFault.{PlanFault}
use Rattle.extent_plan.specs.declared.plan.PlanFault.TheVariants as plans
use Rattle.extent_plan.specs.Plan.{ArePlaces}
use Rattle.extent_plan.specs.Needed.{AreChanged, AreToWrite, numbers_at}
use Rattle.extent_plan.specs.Shared.{KeepsHeld}
use Rattle.page_file.specs.declared.fault.CheckFault.{CheckFault}
use Rattle.page_file.specs.declared.fault.CheckFault.TheVariants as faults
use Rattle.page_file.specs.declared.file.PageFile.{PageFile}
use Rattle.page_file.specs.Checkpoint.{IsCheckpoint}
use Rattle.page_file.specs.Planned.{root_before, new_page, AreUsed, MayCheckpoint}
use Rattle.page_file.specs.PageFile.{IsAtRest}

-- What a fault of planning is for the caller. A count of pages at the end of its type may stand
-- for a greater one, which no memory holds.
abbrev pub check_fault : PlanFault → CheckFault
check_fault (plans.Full pages) =
    if nat_lt pages (2 ^ 64 - 1) then faults.Full pages else faults.NoMemory
check_fault plans.NoMemory = faults.NoMemory

-- the page of the current root, where there is one
abbrev pub root_in : Option Current → Option ℕ
root_in None = None
root_in (Some current) = Some current.page

-- ---- How many pages a checkpoint takes.

-- the current root, as pages are counted
abbrev pub counted_root : Option Extent → Option Root
counted_root None = None
counted_root (Some extent) =
    Some (record { number = extent.number; pages = length (pages_used extent) })

-- the root that the record of what is stored has of an image that was found, with its number
abbrev pub root_found : Option Image → ℕ → Option Root
root_found None number = None
root_found (Some image) number = (after_checkpoint true image number).root

-- all pages of a checkpoint of an image over what an extent stands for
abbrev pub pages_taken : Option Extent → Image → ℕ
pages_taken before image = pages_over (counted_root before) (entries image)

-- A checkpoint that takes so many pages is refused exactly where an extent has no room for them,
-- with their number; unless memory runs out.
abbrev pub IsFaultCounted : ℕ → CheckFault → Type 0
IsFaultCounted pages (faults.Full count) = (most_pages < pages) × (count ≡ pages)
IsFaultCounted pages faults.Disk = pages ≤ most_pages
IsFaultCounted pages faults.NoMemory = Unit {0}

abbrev pub IsCounted : {T : Type 0} → ℕ → Result T CheckFault → Type 0
IsCounted pages (Ok x) = pages ≤ most_pages
IsCounted pages (Err fault) = IsFaultCounted pages fault

-- the same of its plan, whose count stays at the end of its type
abbrev pub IsPlanFaultCounted : ℕ → PlanFault → Type 0
IsPlanFaultCounted pages (plans.Full count) =
    (most_pages < pages) × (count ≡ min pages (2 ^ 64 - 1))
IsPlanFaultCounted pages plans.NoMemory = Unit {0}

abbrev pub IsPlanCounted : {T : Type 0} → ℕ → Result T PlanFault → Type 0
IsPlanCounted pages (Ok x) = pages ≤ most_pages
IsPlanCounted pages (Err fault) = IsPlanFaultCounted pages fault

-- ---- What is planned.

-- The leaves of the current root lie as an extent has them, and those may stay in which nothing was
-- changed; these are the others, with those that the root hasn't.
pub record MayShare (image : Image) (changed : List ℕ) (current : Current) (extent : Extent) : Type 0
  where
    pub number : current.number ≡ extent.number
    pub directory : current.directory.items ≡ extent.directory
    pub leaves : ArePlaces current.leaves.items extent.leaves
    pub far : (page : ℕ) → is_one_of page (pages_used extent) ≡ true → 3 ≤ page
    pub numbers : (page : ℕ) → is_one_of page (pages_used extent) ≡ true → page < most_pages
    pub few : length (pages_of_leaves extent.leaves) ≤ most_pages
    pub sharing : Sharing image current.number extent.leaves
    pub written : AreToWrite image current.number (numbers_at current.leaves.items) changed
    pub stored : AreStored extent.leaves
    pub keeps : KeepsHeld image (image_in extent) extent.number
    -- pages that ascend, and are those of the extent, are as many
    pub many : (used : List ℕ) → AscendFrom 3 used → AreUsed used extent
        → length used ≡ length (pages_used extent)

-- An image may follow what an extent stands for: it has each name, each object that wasn't changed
-- since, and no lower number.
abbrev pub Follows : Option Extent → Image → ℕ → Type 0
Follows None image number = Unit {0}
Follows (Some extent) image number =
    (extent.number ≤ number) × KeepsHeld image (image_in extent) extent.number

-- up to which commit the current root goes, where there is one
abbrev pub number_before : Option Extent → Option ℕ
number_before before = option_map (λ (extent : Extent). extent.number) before

-- a checkpoint of the image may be made over the open extent, and these are the changed leaves
pub record MayChange (past : Past) (pages : PageFile) (before : Option Extent) (image : Image)
    (number : ℕ) (changed : List ℕ) : Type 0 where
  pub at_rest : IsAtRest past pages before
  pub follows : Follows before image number
  pub leaves : AreChanged (number_before before) image changed

-- what was planned: the checkpoint, and where it lies once it is made
pub record IsNext (past : Past) (before : Option Extent) (image : Image) (number page : ℕ)
    (plan : Plan) : Type 0 where
  pub may : MayCheckpoint past before image number plan.pieces.items
  pub page_is : page ≡ new_page (root_before (reads past OfExtent) before)
  pub directory : plan.directory.items ≡ may.next.directory
  pub leaves : ArePlaces plan.leaves.items may.next.leaves
  pub stored : IsStoredExtent may.next

-- the extent of the disk is a checkpoint of the image, and the open extent says where it lies
pub record IsChanged (past : Past) (pages : PageFile) (image : Image) (number : ℕ) : Type 0 where
  pub next : Extent
  pub at_rest : IsAtRest past pages (Some next)
  pub holds : IsCheckpoint image number next

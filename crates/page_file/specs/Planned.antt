-- A checkpoint that is planned, by what the file stands for before it.
use Rattle.std.specs.Prelude.{◌≡◌, ℕ, List, [], Option, Some, None, Ok}
use Rattle.gem_disk.specs.declared.disk.Which.TheVariants.{Extent as OfExtent}
use Rattle.gem_disk.specs.Disk.{Past, reads}
use Rattle.gem_image.specs.Image.{Image}
use Rattle.disk_pieces.specs.Pieces.{Piece}
use Rattle.disk_pieces.specs.Crashes.{IsDurable}
use Rattle.extent_pages.specs.Pages.{is_one_of}
use Rattle.extent_pages.specs.Extent.{Extent, pages_used, selected, extent_of}
use Rattle.extent_plan.specs.Plan.{IsPlanned}
use Rattle.page_file.specs.Around.{first_around, later_around}
use Rattle.page_file.specs.Checkpoint.{other_page, IsCheckpoint}

-- the page of the current root, where there is one
abbrev pub root_before : List ℕ → Option Extent → Option ℕ
root_before file None = None
root_before file (Some extent) = Some (selected file)

-- the page of the root that a checkpoint writes, by that of the current one
abbrev pub new_page : Option ℕ → ℕ
new_page None = 1
new_page (Some page) = other_page page

-- the file stands for this extent, with its root in this page
pub record IsRooted (file : List ℕ) (next : Extent) (page : ℕ) : Type 0 where
  pub stands : extent_of file ≡ Ok (Some next)
  pub page_is : selected file ≡ page

-- these are the pages that the extent uses, in any order
abbrev pub AreUsed : List ℕ → Extent → Type 0
AreUsed kept extent = (page : ℕ) → is_one_of page kept ≡ is_one_of page (pages_used extent)

-- These pieces are a plan of the next extent: of a first one, with its root in page 1, or of one
-- that shares leaves with the extent before it, writes none of its pages, and has the other root.
abbrev pub PlannedFrom : List ℕ → Option Extent → Extent → List Piece → Type 0
PlannedFrom file None next pieces = IsPlanned [] [] 1 first_around next pieces
PlannedFrom file (Some extent) next pieces = (kept : List ℕ) × AreUsed kept extent
    × IsPlanned kept extent.leaves (other_page (selected file)) later_around next pieces

-- A checkpoint of an image, up to the commit of this number, may be written by these pieces: the
-- file stands for what is before it, all of it on the disk.
pub record MayCheckpoint (past : Past) (before : Option Extent) (image : Image) (number : ℕ)
    (pieces : List Piece) : Type 0 where
  pub stands : extent_of (reads past OfExtent) ≡ Ok before
  pub durable : IsDurable past
  pub next : Extent
  pub planned : PlannedFrom (reads past OfExtent) before next pieces
  pub holds : IsCheckpoint image number next

-- What an extent stands for while a checkpoint is written.
use Rattle.std.specs.Prelude.{◌≡◌, ◌⊎◌, ◌≢◌, ℕ, ◌-◌, ◌≤◌, List, [], length, get_or, Option, Some, None, Ok}
use Rattle.gem_image.specs.Image.{Image, objects_in}
use Rattle.gem_disk.specs.declared.disk.Which.TheVariants.{Extent as OfExtent}
use Rattle.gem_disk.specs.Disk.{Past, reads}
use Rattle.disk_pieces.specs.Pieces.{Piece, Reach, Ascend, Kept, AllMiss, IsBrought}
use Rattle.disk_pieces.specs.Crashes.{IsDurable, MayWrite, SwitchesLast}
use Rattle.extent_pages.specs.Pages.{page_size, is_one_of, pages_of}
use Rattle.extent_pages.specs.Extent.{Extent, image_in, selected, extent_of}
use Rattle.extent_pages.specs.Laid.{IsLaid, kept_pages}

-- what a checkpoint leaves of a file: so many bytes at its front, and these pages
abbrev pub kept_of : ℕ → List ℕ → Kept
kept_of front pages = record {
  front = front;
  size = page_size;
  blocks = λ page. is_one_of page pages;
}

-- the page of the other root
abbrev pub other_page : ℕ → ℕ
other_page page = 3 - page

-- the gate is closed: there is a first byte, and it isn't 1
pub record IsClosed (file : List ℕ) : Type 0 where
  pub some : 1 ≤ length file
  pub gate : get_or file 0 0 ≢ 1

-- the file has no checkpoint
abbrev pub HasNone : List ℕ → Type 0
HasNone file = extent_of file ≡ Ok None

-- what an extent stands for, or what it stands for after a checkpoint
abbrev pub HoldsEither : Option Extent → Extent → List ℕ → Type 0
HoldsEither before next image =
    (extent_of image ≡ Ok before) ⊎ (extent_of image ≡ Ok (Some next))

-- the offset of the byte that a checkpoint writes last: that of the gate where the extent stands for
-- none, and else that of the selector
abbrev pub switch_of : Option Extent → ℕ
switch_of None = 0
switch_of (Some extent) = 1

-- What a checkpoint does to an extent. While pages are written, a crash leaves one that stands for
-- what it stood for before. Then nothing more is done; or, with all pages on the disk, the gate or the
-- selector is written.
abbrev pub SwitchesFrom : Option Extent → Past → Past → Type 0
SwitchesFrom before old new =
    SwitchesLast (λ file. extent_of file ≡ Ok before) (switch_of before) old new

-- ---- Pieces of a checkpoint.

-- In whatever file these pieces are brought into this one, the extent lies there, with its root in
-- this page.
abbrev pub Lays : Kept → List Piece → List ℕ → ℕ → Extent → Type 0
Lays kept pieces file page next = (written : List ℕ) → IsBrought kept pieces file written
    → IsLaid (pages_of written) page next

-- the extent lies in a file, with its root in page 1, which the file's second byte names
pub record IsSelected (file : List ℕ) (next : Extent) : Type 0 where
  pub long : 2 ≤ length file
  pub page : selected file ≡ 1
  pub laid : IsLaid (pages_of file) (selected file) next

-- The pieces are those of a later checkpoint, with its root in this page, after which the file
-- stands for the next extent: it stands for this one, all of it on the disk, and the root and the
-- pages of this one stay.
pub record MayRenew (past : Past) (extent next : Extent) (page : ℕ) (pieces : List Piece) : Type 0
  where
    pub stands : extent_of (reads past OfExtent) ≡ Ok (Some extent)
    pub other : page ≡ other_page (selected (reads past OfExtent))
    pub may : MayWrite past (kept_of 2 (kept_pages (reads past OfExtent) extent)) pieces
    pub reach : Reach (length (reads past OfExtent)) pieces
    pub lays : Lays (kept_of 2 (kept_pages (reads past OfExtent) extent)) pieces
        (reads past OfExtent) page next

-- The pieces are those of the first checkpoint, after which the file stands for the next extent: it
-- stands for none, all of it on the disk, and its first byte stays.
pub record MayBegin (past : Past) (next : Extent) (pieces : List Piece) : Type 0 where
  pub stands : extent_of (reads past OfExtent) ≡ Ok None
  pub durable : IsDurable past
  pub ascend : Ascend 1 pieces
  pub miss : AllMiss (kept_of 1 []) pieces
  pub reach : Reach 1 pieces
  pub lays : (file written : List ℕ) → IsBrought (kept_of 1 []) pieces file written
      → IsSelected written next

-- ---- Images.

-- The extent is a checkpoint of the image, up to the commit of this number.
pub record IsCheckpoint (image : Image) (number : ℕ) (extent : Extent) : Type 0 where
  pub number_is : extent.number ≡ number
  pub agrees : (name : ℕ) → objects_in (image_in extent) name ≡ objects_in image name

-- what a file stands for after the checkpoint of an image
abbrev pub IsMade : Image → ℕ → List ℕ → Type 0
IsMade image number file = (next : Extent) × (extent_of file ≡ Ok (Some next))
    × IsCheckpoint image number next

-- what a file stands for before the checkpoint of an image, or after it
abbrev pub StandsFor : Option Extent → Image → ℕ → List ℕ → Type 0
StandsFor before image number file = (extent_of file ≡ Ok before) ⊎ IsMade image number file

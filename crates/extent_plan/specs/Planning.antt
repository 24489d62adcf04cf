-- The plan of a checkpoint of an image.
use Rattle.std.specs.Prelude.{◌≡◌, ℕ, ◌+◌, ◌-◌, ◌^◌, min, List, ◌∷◌, ◌++◌, length}
use Rattle.gem_image.specs.Image.{Image, objects_in}
use Rattle.disk_pieces.specs.Pieces.{Piece}
use Rattle.extent_pages.specs.declared.root.Root.{Root}
use Rattle.extent_pages.specs.Extent.{Leaf, Extent, image_in, first_page}
use Rattle.extent_pages.specs.Spelled.{spelled_directory}
use Rattle.extent_plan.specs.declared.place.LeafPlace.{LeafPlace}
use Rattle.extent_plan.specs.declared.plan.Plan.{Plan}
use Rattle.extent_plan.specs.Pieces.{chain_pieces}
use Rattle.extent_plan.specs.Plan.{ArePlaces, root_piece, IsPlanned}
use Rattle.extent_plan.specs.Totals.{entries_at, objects_at, pages_at, serial_at}

-- the root of an extent with these leaves, and its directory in these pages, by what has room in it
abbrev pub root_by : ℕ → List ℕ → List LeafPlace → Root
root_by number directory places = record {
  number = number;
  serial = serial_at places;
  objects = min (objects_at places) (2 ^ 64 - 1);
  directory = first_page directory;
  pages = min (length directory + pages_at places) (2 ^ 32 - 1);
}

-- The pieces of a directory in these pages, of leaves that lie so, and of the root are put together.
pub record IsWritten (number page : ℕ) (directory : List ℕ) (places : List LeafPlace)
    (leaf_pieces before after : List Piece) (plan : Plan) : Type 0 where
  pub directory_is : plan.directory.items ≡ directory
  pub leaves_are : plan.leaves.items ≡ places
  pub pieces_are : plan.pieces.items
      ≡ before ++ root_piece page (root_by number directory places) ∷ (after
      ++ (chain_pieces directory (spelled_directory (entries_at places)) ++ leaf_pieces))

-- A plan of an extent with this number that holds the image: it writes none of the pages that are
-- used, and shares some of the old leaves.
pub record IsPlanFor (image : Image) (number page : ℕ) (used : List ℕ) (old : List Leaf)
    (before after : List Piece) (plan : Plan) : Type 0 where
  pub extent : Extent
  pub number_is : extent.number ≡ number
  pub directory : plan.directory.items ≡ extent.directory
  pub leaves : ArePlaces plan.leaves.items extent.leaves
  pub agrees : (name : ℕ) → objects_in (image_in extent) name ≡ objects_in image name
  pub planned : IsPlanned used old page (record { before = before; after = after }) extent
      plan.pieces.items

-- A plan of a checkpoint: which leaves are written anew and where, which stay, and the pieces.
use Rattle.std.specs.Prelude.{◌≡◌, ◌⊎◌, ℕ, ◌*◌, ◌^◌, ◌<◌, List, [], ◌∷◌, ◌++◌, length}
use Rattle.disk_pieces.specs.Pieces.{Piece}
use Rattle.extent_pages.specs.Pages.{page_size}
use Rattle.extent_pages.specs.Spelled.{root_page, spelled_directory, spelled_leaf}
use Rattle.extent_pages.specs.declared.root.Root.{Root}
use Rattle.extent_pages.specs.Extent.{Leaf, Extent, largest_serial, root_of}
use Rattle.extent_pages.specs.Laid.{entries_of}
use Rattle.extent_pages.specs.Stored.{FitsRoot, AreEntries, AreOfLeaf}
use Rattle.extent_plan.specs.declared.place.LeafPlace.{LeafPlace}
use Rattle.extent_plan.specs.Runs.{behind, IsRun}
use Rattle.extent_plan.specs.Pieces.{chain_pieces, Fills}

-- ---- Leaves without their objects.

-- a leaf lies so, and has so many objects with this largest serial
pub record IsPlace (place : LeafPlace) (leaf : Leaf) : Type 0 where
  pub number : place.number ≡ leaf.number
  pub pages : place.pages.items ≡ leaf.pages
  pub count : place.count ≡ length leaf.objects
  pub serial : place.serial ≡ largest_serial leaf.objects

-- both say the same of a leaf
pub record SamePlace (place other : LeafPlace) : Type 0 where
  pub number : other.number ≡ place.number
  pub pages : other.pages.items ≡ place.pages.items
  pub count : other.count ≡ place.count
  pub serial : other.serial ≡ place.serial

-- one after the other
abbrev pub ArePlaces : List LeafPlace → List Leaf → Type 0
ArePlaces [] [] = Unit {0}
ArePlaces [] (leaf ∷ leaves) = ⊥
ArePlaces (place ∷ places) [] = ⊥
ArePlaces (place ∷ places) (leaf ∷ leaves) = IsPlace place leaf × ArePlaces places leaves

-- ---- Leaves that are renewed.

-- a leaf that is written anew, in the lowest pages from this one on that aren't kept
pub record IsFresh (kept : List ℕ) (from : ℕ) (leaf : Leaf) : Type 0 where
  pub run : IsRun kept from leaf.pages
  pub fills : Fills leaf.pages (spelled_leaf leaf.objects)
  pub are : AreOfLeaf leaf.number leaf.objects

-- Leaves that are written anew in pages from one on, by these pieces, or are some of the old ones,
-- in their order; with the old ones that are left, and the page behind all that were written.
abbrev pub RenewsTo : List ℕ → List Leaf → ℕ → List Leaf → List Piece → List Leaf → ℕ → Type 0
RenewsTo kept old from [] pieces left next =
    (pieces ≡ []) × ((before : List Leaf) × (old ≡ before ++ left)) × (next ≡ from)
RenewsTo kept old from (leaf ∷ leaves) pieces left next =
    (IsFresh kept from leaf × ((more : List Piece)
    × (pieces ≡ chain_pieces leaf.pages (spelled_leaf leaf.objects) ++ more)
    × RenewsTo kept old (behind from leaf.pages) leaves more left next))
    ⊎ ((before : List Leaf) × (after : List Leaf) × (old ≡ before ++ leaf ∷ after)
    × RenewsTo kept after from leaves pieces left next)

-- ---- The whole.

-- a page with a root as a piece
abbrev pub root_piece : ℕ → Root → Piece
root_piece page root = record { at = page_size * page; bytes = root_page root }

-- what is written before the root, and between it and the directory
pub record Around : Type 0 where
  pub before : List Piece
  pub after : List Piece

-- These pieces put an extent into a file, with its root in this page: those round the root, then the
-- directory in the lowest pages that aren't kept, then the leaves that are written anew. The others
-- are some of the old leaves.
pub record IsPlanned (kept : List ℕ) (old : List Leaf) (page : ℕ) (around : Around)
    (extent : Extent) (pieces : List Piece) : Type 0 where
  pub number : extent.number < 2 ^ 63
  pub fits : FitsRoot (root_of extent)
  pub run : IsRun kept 3 extent.directory
  pub fills : Fills extent.directory (spelled_directory (entries_of extent.leaves))
  pub entries : AreEntries (entries_of extent.leaves)
  pub leaf_pieces : List Piece
  pub left : List Leaf
  pub next : ℕ
  pub renews : RenewsTo kept old (behind 3 extent.directory) extent.leaves leaf_pieces left next
  pub pieces_are : pieces ≡ around.before ++ root_piece page (root_of extent) ∷ (around.after
      ++ (chain_pieces extent.directory (spelled_directory (entries_of extent.leaves))
      ++ leaf_pieces))

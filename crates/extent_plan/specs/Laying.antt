-- Drafts that are given their pages.
use Rattle.std.specs.Prelude.{◌≡◌, ℕ, List, ◌++◌, length, map, sum_by}
use Rattle.gem_object.specs.declared.object.Object.{Object}
use Rattle.gem_image.specs.Image.{Image}
use Rattle.disk_pieces.specs.Pieces.{Piece}
use Rattle.extent_pages.specs.Extent.{Leaf}
use Rattle.extent_plan.specs.declared.place.LeafPlace.{LeafPlace}
use Rattle.extent_plan.specs.declared.draft.Draft.{Draft}
use Rattle.extent_plan.specs.declared.draft.Draft.TheVariants.{Shared, Fresh}
use Rattle.extent_plan.specs.declared.fresh.FreshLeaf.{FreshLeaf}
use Rattle.extent_plan.specs.Runs.{IsRun}
use Rattle.extent_plan.specs.Pieces.{chain_pieces, pages_filled}
use Rattle.extent_plan.specs.Plan.{ArePlaces, RenewsTo}
use Rattle.extent_plan.specs.Drafts.{DraftsTo}

-- how many pages a draft is to be written on
abbrev pub draft_pages : Draft → ℕ
draft_pages (Shared place) = 0
draft_pages (Fresh fresh) = pages_filled (length fresh.payload.items)

-- all pages that drafts are to be written on
abbrev pub pages_of_drafts : List Draft → ℕ
pages_of_drafts drafts = sum_by draft_pages drafts

-- A fresh leaf lies on the first of the free pages.
pub record LiesOn (fresh : FreshLeaf) (free rest : List ℕ) (old new : List Piece)
    (place : LeafPlace) : Type 0 where
  pub pages : place.pages.items ++ rest ≡ free
  pub many : length place.pages.items ≡ pages_filled (length fresh.payload.items)
  pub pieces : new ≡ old ++ chain_pieces place.pages.items fresh.payload.items
  pub number : place.number ≡ fresh.number
  pub count : place.count ≡ fresh.count
  pub serial : place.serial ≡ fresh.serial

-- what became of a draft
abbrev pub LaysOne : Draft → List ℕ → List ℕ → List Piece → List Piece → LeafPlace → Type 0
LaysOne (Shared kept) free rest old new place = (place ≡ kept) × (rest ≡ free) × (new ≡ old)
LaysOne (Fresh fresh) free rest old new place = LiesOn fresh free rest old new place

-- a leaf without its pages
abbrev pub unpaged : Leaf → ℕ × List (ℕ × Object)
unpaged leaf = (leaf.number, leaf.objects)

-- The leaves that were drafted so far lie so; others are left.
pub record LaidTo (image : Image) (kept : List ℕ) (old : List Leaf) (from : ℕ) (drafts : List Draft)
    (rest : List ℕ) (pieces : List Piece) (places : List LeafPlace) (made left : List Leaf)
    : Type 0 where
  pub leaves : List Leaf
  pub old_left : List Leaf
  pub made_left : List Leaf
  pub next : ℕ
  pub renews : RenewsTo kept old from leaves pieces old_left next
  pub to : DraftsTo image old_left drafts made_left left
  pub run : IsRun kept next rest
  pub same : map unpaged leaves ++ map unpaged made_left ≡ map unpaged made
  pub are : ArePlaces places leaves

-- Leaves were written by these pieces, which lie so, or stay.
pub record AreLaid (kept : List ℕ) (old : List Leaf) (from : ℕ) (pieces : List Piece)
    (places : List LeafPlace) (made : List Leaf) : Type 0 where
  pub leaves : List Leaf
  pub left : List Leaf
  pub next : ℕ
  pub renews : RenewsTo kept old from leaves pieces left next
  pub same : map unpaged leaves ≡ map unpaged made
  pub are : ArePlaces places leaves

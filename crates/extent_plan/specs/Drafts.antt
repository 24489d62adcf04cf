-- Leaves that were drafted: which stay as they are, and which are to be written, with their bytes but
-- without pages.
use Rattle.std.specs.Prelude.{◌≡◌, ℕ, ◌/◌, ◌^◌, ◌<◌, ◌≤◌, ◌==◌, nat_lt, Bool, true, false, if◌then◌else◌, List, [], ◌∷◌, ◌++◌, length, map, None}
use Rattle.std.specs.List.{flat_map, AllByRecursion}
use Rattle.std.specs.List.Sorted.{IsStrictlySortedBy}
use Rattle.std.specs.Ordering.{nat_cmp}
use Rattle.std.specs.FinMap.{find}
use Rattle.gem_object.specs.declared.object.Object.{Object}
use Rattle.gem_image.specs.Image.{Image, objects_in}
use Rattle.extent_pages.specs.Spelled.{spelled_leaf}
use Rattle.extent_pages.specs.Contents.{leaf_size}
use Rattle.extent_pages.specs.Extent.{Leaf, first_page, largest_serial}
use Rattle.extent_pages.specs.Stored.{AreOfLeaf}
use Rattle.extent_plan.specs.declared.place.LeafPlace.{LeafPlace}
use Rattle.extent_plan.specs.declared.gather.Gathered.{Gathered}
use Rattle.extent_plan.specs.declared.draft.Draft.{Draft}
use Rattle.extent_plan.specs.declared.draft.Draft.TheVariants.{Shared, Fresh}
use Rattle.extent_plan.specs.declared.fresh.FreshLeaf.{FreshLeaf}
use Rattle.extent_plan.specs.Leaves.{leaf_objects, is_changed, contents_at, Holds}
use Rattle.extent_plan.specs.Gathered.{AreGathered}
use Rattle.extent_plan.specs.Plan.{IsPlace, SamePlace}

-- a leaf as an image has it; it has no pages yet
abbrev pub unplaced : Image → ℕ → Leaf
unplaced image number = record {
  number = number;
  pages = [];
  objects = leaf_objects image number;
}

-- the bytes of a leaf as an image has it
pub record IsSpelledLeaf (image : Image) (fresh : FreshLeaf) : Type 0 where
  pub payload : fresh.payload.items ≡ spelled_leaf (leaf_objects image fresh.number)
  pub count : fresh.count ≡ length (leaf_objects image fresh.number)
  pub serial : fresh.serial ≡ largest_serial (leaf_objects image fresh.number)
  pub are : AreOfLeaf fresh.number (leaf_objects image fresh.number)

-- What these drafts make of the old leaves: some of these, in their order, and new ones; with the old
-- ones that are left.
abbrev pub DraftsTo : Image → List Leaf → List Draft → List Leaf → List Leaf → Type 0
DraftsTo image old [] made left = (made ≡ []) × ((before : List Leaf) × (old ≡ before ++ left))
DraftsTo image old (Shared place ∷ drafts) made left = (leaf : Leaf) × (more : List Leaf)
    × (made ≡ leaf ∷ more) × IsPlace place leaf
    × ((before : List Leaf) × (after : List Leaf) × (old ≡ before ++ leaf ∷ after)
    × DraftsTo image after drafts more left)
DraftsTo image old (Fresh fresh ∷ drafts) made left = (more : List Leaf)
    × (made ≡ unplaced image fresh.number ∷ more) × IsSpelledLeaf image fresh
    × DraftsTo image old drafts more left

-- Up to the leaf of this number objects are those of an image, and there are none from it on.
pub record AgreesBelow (image : Image) (next : ℕ) (objects : List (ℕ × Object)) : Type 0 where
  pub same : (name : ℕ) → name / leaf_size < next
      → contents_at objects name ≡ objects_in image name
  pub above : (name : ℕ) → next ≤ name / leaf_size → find nat_cmp name objects ≡ None

-- what a fresh leaf of this number is made of
pub record IsFreshOf (leaf : ℕ) (gathered : Gathered) (fresh : FreshLeaf) : Type 0 where
  pub number : fresh.number ≡ leaf
  pub count : fresh.count ≡ gathered.count
  pub serial : fresh.serial ≡ gathered.serial
  pub payload : fresh.payload.items ≡ gathered.count ∷ gathered.items.items

-- whether a leaf comes before the first of these, if there is one
abbrev pub comes_before : ℕ → List ℕ → Bool
comes_before leaf [] = true
comes_before leaf (first ∷ others) = nat_lt leaf first

-- the first of these places, if there is one, doesn't come before the first of these leaves
abbrev pub NoneBefore : List LeafPlace → List ℕ → Type 0
NoneBefore [] changed = Unit {0}
NoneBefore (place ∷ places) changed = comes_before place.number changed ≡ false

-- the places behind that of the leaf of this number, where it is the first
abbrev pub places_behind : ℕ → List LeafPlace → List LeafPlace
places_behind leaf [] = []
places_behind leaf (place ∷ places) = if place.number == leaf then places else place ∷ places

-- a place was drafted, which stays
pub record KeepsPlace (place : LeafPlace) (old new : List Draft) : Type 0 where
  pub copy : LeafPlace
  pub same : SamePlace place copy
  pub drafts : new ≡ old ++ Shared copy ∷ []

-- the leaf of this number was drafted, which is to be written as the image has it
pub record SpellsLeaf (image : Image) (leaf : ℕ) (old new : List Draft) : Type 0 where
  pub gathered : Gathered
  pub are : AreGathered (leaf_objects image leaf) gathered
  pub fresh : FreshLeaf
  pub is : IsFreshOf leaf gathered fresh
  pub drafts : new ≡ old ++ Fresh fresh ∷ []

-- An old leaf can be stored, and where none of its objects was changed after this commit it holds
-- what the image has.
pub record IsSharable (image : Image) (since : ℕ) (leaf : Leaf) : Type 0 where
  pub are : AreOfLeaf leaf.number leaf.objects
  pub first : first_page leaf.pages < 2 ^ 32
  pub holds : is_changed image since leaf.number ≡ false → Holds image leaf

-- each of the old leaves
abbrev pub Sharing : Image → ℕ → List Leaf → Type 0
Sharing image since old = AllByRecursion (IsSharable image since) old

-- the numbers of leaves
abbrev pub numbers_of : List Leaf → List ℕ
numbers_of leaves = map (λ (leaf : Leaf). leaf.number) leaves

-- all objects of leaves
abbrev pub objects_in_all : List Leaf → List (ℕ × Object)
objects_in_all leaves = flat_map (λ (leaf : Leaf). leaf.objects) leaves

-- The drafts make leaves that hold the image: their numbers ascend, and each can be stored.
pub record Drafted (image : Image) (old : List Leaf) (drafts : List Draft) : Type 0 where
  pub made : List Leaf
  pub left : List Leaf
  pub to : DraftsTo image old drafts made left
  pub agrees : (name : ℕ) → contents_at (objects_in_all made) name ≡ objects_in image name
  pub ascend : IsStrictlySortedBy nat_cmp (numbers_of made)
  pub small : AllByRecursion (λ number. number < 2 ^ 42) (numbers_of made)
  pub each : AllByRecursion (λ (leaf : Leaf). AreOfLeaf leaf.number leaf.objects) made

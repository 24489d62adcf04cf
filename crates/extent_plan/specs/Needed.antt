-- Which leaves a checkpoint of an image writes, and how many pages it takes.
use Rattle.std.specs.Prelude.{◌≡◌, ℕ, zero, suc, ◌+◌, ◌*◌, ◌^◌, nat_lt, Bool, true, not, ◌&&◌, if◌then◌else◌, List, length, map, Option, None, Some}
use Rattle.gem_image.specs.Image.{Image}
use Rattle.extent_pages.specs.Pages.{is_one_of}
use Rattle.extent_pages.specs.Spelled.{spelled_leaf}
use Rattle.extent_plan.specs.declared.place.LeafPlace.{LeafPlace}
use Rattle.extent_plan.specs.Runs.{AscendFrom}
use Rattle.extent_plan.specs.Pieces.{pages_filled}
use Rattle.extent_plan.specs.Leaves.{leaf_objects, is_changed}

-- what a function gives at each number below one, added up
unfoldable pub sum_below : ℕ → (ℕ → ℕ) → ℕ
sum_below zero f = 0
sum_below (suc n) f = sum_below n f + f n

-- whether an image has an object at a name of the leaf of this number
abbrev pub has_leaf : Image → ℕ → Bool
has_leaf image leaf = nat_lt 0 (length (leaf_objects image leaf))

-- whether the leaf stays: it is one of these, and none of its objects was changed after the commit of
-- this number
abbrev pub stays : Image → ℕ → List ℕ → ℕ → Bool
stays image since numbers leaf = is_one_of leaf numbers && not (is_changed image since leaf)

-- whether the leaf is written: the image has it, and it doesn't stay
abbrev pub is_written : Image → ℕ → List ℕ → ℕ → Bool
is_written image since numbers leaf = has_leaf image leaf && not (stays image since numbers leaf)

-- how many pages the leaf is written on
abbrev pub pages_written : Image → ℕ → List ℕ → ℕ → ℕ
pages_written image since numbers leaf = if is_written image since numbers leaf
    then pages_filled (length (spelled_leaf (leaf_objects image leaf)))
    else 0

-- These are the numbers of all leaves that are written, where the current root has those leaves and
-- goes up to the commit of this number. Both lists ascend, and the image has each leaf of the root.
pub record AreToWrite (image : Image) (since : ℕ) (numbers changed : List ℕ) : Type 0 where
  pub root_ascends : AscendFrom 0 numbers
  pub held : (leaf : ℕ) → is_one_of leaf numbers ≡ true → has_leaf image leaf ≡ true
  pub ascend : AscendFrom 0 changed
  pub are : (leaf : ℕ) → is_one_of leaf changed ≡ is_written image since numbers leaf

-- whether a leaf counts as changed over a root that goes up to this commit: one of its objects was
-- changed after it; without a root whether the image has the leaf
abbrev pub counts_changed : Option ℕ → Image → ℕ → Bool
counts_changed None image leaf = has_leaf image leaf
counts_changed (Some since) image leaf = is_changed image since leaf

-- these are the numbers of all leaves that do, in ascending order
pub record AreChanged (root : Option ℕ) (image : Image) (changed : List ℕ) : Type 0 where
  pub ascend : AscendFrom 0 changed
  pub are : (leaf : ℕ) → is_one_of leaf changed ≡ counts_changed root image leaf

-- 1 for a leaf, so that leaves are counted
abbrev pub one_leaf : Image → ℕ → ℕ
one_leaf image leaf = if has_leaf image leaf then 1 else 0

-- how many leaves an image has
abbrev pub leaves_in : Image → ℕ
leaves_in image = sum_below (2 ^ 42) (one_leaf image)

-- The pages that a checkpoint of an image writes, where the current root has these leaves and goes up
-- to the commit of this number: those of the directory, and those of the leaves that don't stay.
abbrev pub pages_needed : Image → ℕ → List ℕ → ℕ
pages_needed image since numbers = pages_filled (4 + 12 * leaves_in image)
    + sum_below (2 ^ 42) (pages_written image since numbers)

-- the numbers of places
abbrev pub numbers_at : List LeafPlace → List ℕ
numbers_at places = map (λ (place : LeafPlace). place.number) places

-- all pages of a checkpoint: the three at the front, those that the current root uses, and those that
-- are written
abbrev pub checkpoint_pages : Image → ℕ → List ℕ → List LeafPlace → ℕ
checkpoint_pages image since used places =
    3 + length used + pages_needed image since (numbers_at places)

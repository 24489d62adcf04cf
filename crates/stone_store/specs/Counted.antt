-- How many pages a checkpoint takes, as it is counted leaf by leaf.
use Rattle.std.specs.Prelude.{◌≡◌, ◌≤◌, ◌<◌, ◌+◌, ◌^◌, ℕ, nat_lt, Bool, true, false, if◌then◌else◌, List, [], ◌∷◌, ◌++◌, length, Option, Some, None, option_map, Result, Ok, Err, Vec}
use Rattle.std.specs.Global.{Global}
use Rattle.std.specs.List.{filter, AllByRecursion}
use Rattle.std.specs.FinMap.{entries}
use Rattle.gem_object.specs.declared.object.Object.{Object}
use Rattle.gem_image.specs.Image.{Image}
use Rattle.gem_record.specs.Effects.{changed_size}
use Rattle.gem_record.specs.Stored.{pages_with, leaves_of, is_stale, pages_over, image_pages}
use Rattle.gem_record.specs.declared.limits.TheConstants.{PAGE_LIMIT}
use Rattle.extent_pages.specs.Spelled.{spelled_leaf}
use Rattle.extent_plan.specs.Pieces.{pages_filled}
use Rattle.extent_plan.specs.Leaves.{leaf_objects}
use Rattle.extent_plan.specs.Needed.{sum_below, one_leaf, counts_changed, AreChanged, pages_written as pages_of_leaf}
use Rattle.extent_plan.specs.Used.{Collected}
use Rattle.gem_keeper.specs.declared.keeper.CheckFault.{CheckFault}
use Rattle.gem_keeper.specs.declared.keeper.CheckFault.TheVariants as fault
use Rattle.stone_store.specs.declared.count.Sums.{Sums}
use Rattle.stone_store.specs.declared.count.PageCounts.{PageCounts}
use Rattle.stone_store.specs.declared.parts.Root.{Root}
use Rattle.stone_store.specs.Resting.{stored_root}

-- ---- Leaves.

-- the bytes of what stands at a name, with the name
abbrev pub size_at : ℕ → Option Object → ℕ
size_at name None = 0
size_at name (Some object) = changed_size (name, object)

-- the pages of a leaf
abbrev pub leaf_pages : Image → ℕ → ℕ
leaf_pages image leaf = pages_filled (length (spelled_leaf (leaf_objects image leaf)))

-- whether what stands at a name counts as changed over a root that goes up to this commit; without a
-- root each object does
abbrev pub stale_over : Option ℕ → Option Object → Bool
stale_over root None = false
stale_over None (Some object) = true
stale_over (Some since) (Some object) = nat_lt since object.changed

-- a leaf, where it has changed
abbrev pub leaf_if : Bool → ℕ → List ℕ
leaf_if stale leaf = if stale then leaf ∷ [] else []

-- one leaf more was counted, and put behind the others that have changed, where it has
pub record AddsLeaf (image : Image) (root : Option ℕ) (leaf : ℕ) (old new : Sums)
    (before after : List ℕ) : Type 0 where
  pub leaves : new.leaves ≡ old.leaves + 1
  pub all : new.all ≡ old.all + leaf_pages image leaf
  pub stale : new.stale ≡ old.stale
      + (if counts_changed root image leaf then leaf_pages image leaf else 0)
  pub listed : after ≡ before ++ leaf_if (counts_changed root image leaf) leaf

-- all leaves of the image
abbrev pub leaves_with : Image → List ℕ
leaves_with image = leaves_of (entries image)

-- the pages of a leaf that is written over a root that goes up to this commit; without a root all are
abbrev pub stale_pages : Option ℕ → Image → ℕ → ℕ
stale_pages None image = pages_of_leaf image 0 []
stale_pages (Some since) image = pages_of_leaf image since (leaves_with image)

-- the leaves below this number were counted, and those of them that have changed are these
pub record AreCountedBelow (image : Image) (root : Option ℕ) (below : ℕ) (sums : Sums)
    (changed : List ℕ) : Type 0 where
  pub few : sums.leaves ≤ below
  pub leaves : sums.leaves ≡ sum_below below (one_leaf image)
  pub all : sums.all ≡ sum_below below (pages_of_leaf image 0 [])
  pub stale : sums.stale ≡ sum_below below (stale_pages root image)
  pub listed : Collected 0 (counts_changed root image) changed below

-- all were
abbrev pub AreCounted : Image → (root : Option ℕ) → Sums → List ℕ → Type 0
AreCounted image root sums changed = AreCountedBelow image root (2 ^ 42) sums changed

-- the numbers of all leaves that have changed
pub record AreListed (root : Option ℕ) (image : Image) (changed : List ℕ) : Type 0 where
  pub are : AreChanged root image changed
  pub low : AllByRecursion (λ leaf. leaf < 2 ^ 42) changed

-- ---- Checkpoints.

-- the pages that are written over a root that goes up to this commit; all without one
abbrev pub pages_written : Option ℕ → Image → ℕ
pages_written None image = pages_with (entries image) (leaves_of (entries image))
pages_written (Some since) image =
    pages_with (entries image) (filter (is_stale since (entries image)) (leaves_of (entries image)))

-- up to which commit a root goes
abbrev pub since_root : Option Root → Option ℕ
since_root root = option_map (λ (known : Root). known.number) root

abbrev pub used_by : Option Root → ℕ
used_by None = 0
used_by (Some root) = root.pages

-- all pages of a checkpoint over a root, by what was counted
abbrev pub pages_by : PageCounts → Option Root → ℕ
pages_by counts root = 3 + (used_by root + counts.written)

-- why a checkpoint isn't made, by what was counted, if it isn't
abbrev pub Refuses : PageCounts → Option Root → Option CheckFault → Type 0
Refuses counts root None = pages_by counts root ≤ PAGE_LIMIT
Refuses counts root (Some (fault.Full pages)) =
    (pages ≡ pages_by counts root) × (PAGE_LIMIT < pages_by counts root)
Refuses counts root (Some fault.Disk) = ⊥
Refuses counts root (Some fault.NoMemory) = Unit {0}

-- the pages of a checkpoint of an image over a root
abbrev pub pages_for : Image → Option Root → ℕ
pages_for image root = pages_over (option_map stored_root root) (entries image)

-- it is refused where there is no room for its pages, or where no memory holds what would be counted
abbrev pub CountFails : Image → Option Root → CheckFault → Type 0
CountFails image root (fault.Full pages) =
    (pages ≡ pages_for image root) × (PAGE_LIMIT < pages_for image root)
CountFails image root fault.Disk = ⊥
CountFails image root fault.NoMemory = Unit {0}

abbrev pub Counts : Image → Option Root → Result (PageCounts × Vec ℕ Global) CheckFault → Type 0
Counts image root (Ok found) = (found.0.all ≡ image_pages image)
    × (pages_for image root ≤ PAGE_LIMIT) × AreListed (since_root root) image found.1.items
Counts image root (Err why) = CountFails image root why

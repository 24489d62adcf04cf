-- How much of the log is used, what the current root is, and how many pages a checkpoint takes.
use Rattle.std.specs.Prelude.{ℕ, Bool, true, false, ◌+◌, ◌*◌, ◌/◌, ◌&&◌, ◌==◌, nat_lt, List, map, length, sum_by, Option, Some, None, if◌then◌else◌}
use Rattle.std.specs.List.{filter, list_any}
use Rattle.std.specs.Ordering.{nat_cmp}
use Rattle.std.specs.FinMap.{entries, keys, from_entries}
use Rattle.gem_object.specs.declared.object.Object.{Object}
use Rattle.gem_image.specs.Image.{Image}
use Rattle.gem_record.specs.Effects.{changed_size}

-- ---- what is stored

-- The root of the last checkpoint: the number of commits in its image, and how many pages it uses.
pub record Root : Type 0 where
  pub number : ℕ
  pub pages : ℕ

-- How long the log is, and the current root, where there is one.
pub record Stored : Type 0 where
  pub log_length : ℕ
  pub root : Option Root

-- ---- the pages of an image

-- what a page holds of its chain, in bytes
abbrev pub page_room : ℕ
page_room = 16376

-- the pages of a chain of so many bytes, each filled before the next
abbrev pub chain_pages : ℕ → ℕ
chain_pages bytes = (bytes + 16375) / page_room

-- the leaf in which an object stands: each has 64 names
abbrev pub leaf_of : (oid : ℕ) → ℕ
leaf_of oid = oid / 64

abbrev pub is_in_leaf : (leaf : ℕ) → ℕ × Object → Bool
is_in_leaf leaf entry = leaf_of entry.0 == leaf

-- the leaves in which some of these objects stand, ascending and each once
abbrev pub leaves_of : List (ℕ × Object) → List ℕ
leaves_of objects =
    keys (from_entries {R = nat_cmp} (map (λ (entry : ℕ × Object). (leaf_of entry.0, entry.0)) objects))

-- a leaf's bytes: one for the number of its objects, and each object with its name
abbrev pub leaf_size : List (ℕ × Object) → (leaf : ℕ) → ℕ
leaf_size objects leaf = 1 + sum_by changed_size (filter (is_in_leaf leaf) objects)

-- the directory's bytes: four for the number of leaves, and for each one its number and its page
abbrev pub directory_size : List (ℕ × Object) → ℕ
directory_size objects = 4 + 12 * length (leaves_of objects)

-- the pages of these leaves and of the directory
abbrev pub pages_with : List (ℕ × Object) → (leaves : List ℕ) → ℕ
pages_with objects leaves = sum_by (λ leaf. chain_pages (leaf_size objects leaf)) leaves
    + chain_pages (directory_size objects)

-- the pages of all leaves of an image, and of its directory
abbrev pub image_pages : Image → ℕ
image_pages image = pages_with (entries image) (leaves_of (entries image))

-- ---- the pages that a checkpoint takes

-- a commit after the one with this number has changed an object of the leaf
abbrev pub is_stale : (number : ℕ) → List (ℕ × Object) → (leaf : ℕ) → Bool
is_stale number objects leaf =
    list_any (λ (entry : ℕ × Object). is_in_leaf leaf entry && nat_lt number entry.1.changed) objects

-- Three pages that no image uses, those that the current root uses, and those that are written: the
-- leaves that have changed since that root, and the directory. Without a root all leaves are.
abbrev pub pages_over : Option Root → List (ℕ × Object) → ℕ
pages_over None objects = 3 + pages_with objects (leaves_of objects)
pages_over (Some root) objects =
    3 + (root.pages + pages_with objects (filter (is_stale root.number objects) (leaves_of objects)))

-- the pages of a checkpoint of the image, where pages are counted; else none
unfoldable pub pages_needed : (counts_pages : Bool) → Stored → Image → ℕ
pages_needed true stored image = pages_over stored.root (entries image)
pages_needed false stored image = 0

-- the pages of an image, where pages are counted; else none
unfoldable pub pages_counted : (counts_pages : Bool) → Image → ℕ
pages_counted true image = image_pages image
pages_counted false image = 0

-- What is stored after a checkpoint of the image with so many commits: the log is empty, which is
-- one byte, and the root is that of the image.
abbrev pub after_checkpoint : (counts_pages : Bool) → Image → (number : ℕ) → Stored
after_checkpoint counts_pages image number = record {
  log_length = 1;
  root = Some (record { number = number; pages = pages_counted counts_pages image });
}

-- what is stored when the log has grown by so many bytes
abbrev pub longer_by : (size : ℕ) → Stored → Stored
longer_by size stored = record stored { log_length = stored.log_length + size }

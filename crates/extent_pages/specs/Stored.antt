-- What has a place in pages: the fields of a root, the entries of a directory and the objects of a
-- leaf.
use Rattle.std.specs.Prelude.{◌≡◌, ◌⊎◌, ◌<◌, ◌≤◌, ◌+◌, ◌*◌, ◌^◌, ◌/◌, ℕ, List, length, All, map}
use Rattle.std.specs.List.{AllByRecursion}
use Rattle.std.specs.List.Sorted.{IsStrictlySortedBy}
use Rattle.std.specs.Ordering.{nat_cmp}
use Rattle.gem_object.specs.declared.object.Object.{Object}
use Rattle.gem_record.specs.Names.{AscendByName}
use Rattle.gem_record.specs.Stored.{chain_pages}
use Rattle.body_codec.specs.Stored.{IsStoredAt}
use Rattle.extent_pages.specs.Pages.{payload_size}
use Rattle.extent_pages.specs.declared.root.Root.{Root}
use Rattle.extent_pages.specs.Spelled.{spelled_leaf}
use Rattle.extent_pages.specs.Contents.{leaf_size}
use Rattle.extent_pages.specs.Extent.{Leaf, Extent, first_page}

-- the fields of a root have room in their bytes
pub record FitsRoot (root : Root) : Type 0 where
  pub number : root.number < 2 ^ 64
  pub serial : root.serial < 2 ^ 32
  pub objects : root.objects < 2 ^ 64
  pub directory : root.directory < 2 ^ 32
  pub pages : root.pages < 2 ^ 32

-- A page that may be written: the next page, or 0 for none, and a payload that fills it where there
-- is a next page.
pub record FitsPage (next : ℕ) (payload : List ℕ) : Type 0 where
  pub next_fits : next < 2 ^ 32
  pub some : 0 < length payload
  pub short : length payload ≤ payload_size
  pub filled : (next ≡ 0) ⊎ (length payload ≡ payload_size)

-- an entry of a directory has room in its bytes
abbrev pub FitsEntry : ℕ × ℕ → Type 0
FitsEntry entry = (entry.0 < 2 ^ 64) × (entry.1 < 2 ^ 32)

-- the entries of a directory: the numbers of the leaves ascend
pub record AreEntries (entries : List (ℕ × ℕ)) : Type 0 where
  pub count : length entries < 2 ^ 32
  pub each : All FitsEntry entries
  pub ascend : AscendByName entries

-- an object at a name of the leaf of this number, as it is read: changed by no commit
abbrev pub IsOfLeaf : ℕ → ℕ × Object → Type 0
IsOfLeaf leaf entry = IsStoredAt 0 entry × (entry.0 / leaf_size ≡ leaf)

-- the objects of the leaf of this number: one at least, and the names ascend
pub record AreOfLeaf (leaf : ℕ) (objects : List (ℕ × Object)) : Type 0 where
  pub some : 0 < length objects
  pub count : length objects ≤ leaf_size
  pub each : All (IsOfLeaf leaf) objects
  pub ascend : AscendByName objects

-- A leaf that can be stored: its objects are of their form, the number of its first page has room in an
-- entry of a directory, and it has as many pages as the bytes of its objects fill.
pub record IsStoredLeaf (leaf : Leaf) : Type 0 where
  pub are : AreOfLeaf leaf.number leaf.objects
  pub first : first_page leaf.pages < 2 ^ 32
  pub many : length leaf.pages ≡ chain_pages (length (spelled_leaf leaf.objects))

-- leaves that can be stored: their numbers ascend
pub record AreStored (leaves : List Leaf) : Type 0 where
  pub ascend : IsStrictlySortedBy nat_cmp (map (λ (leaf : Leaf). leaf.number) leaves)
  pub each : AllByRecursion IsStoredLeaf leaves

-- an extent that can be stored: its leaves can, and its directory has as many pages as an entry for
-- each of them fills
pub record IsStoredExtent (extent : Extent) : Type 0 where
  pub leaves : AreStored extent.leaves
  pub directory : length extent.directory ≡ chain_pages (4 + 12 * length extent.leaves)

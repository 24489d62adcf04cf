-- Roots, and what an extent stands for.
use Rattle.std.specs.Prelude.{ℕ, ◌^◌, ◌%◌, ◌==◌, ◌&&◌, nat_lt, max, Bool, if◌then◌else◌, List, [], ◌∷◌, ◌++◌, length, get_or, take, drop, Option, Some, None, Result, Ok, Err}
use Rattle.std.specs.Ordering.{nat_cmp}
use Rattle.std.specs.List.{flat_map, fold}
use Rattle.std.specs.FinMap.{from_entries}
use Rattle.std.specs.Int.{w32, w64, from_le_bytes}
use Rattle.gem_object.specs.gem_value.Oid.{serial_of}
use Rattle.gem_object.specs.declared.object.Object.{Object}
use Rattle.gem_image.specs.Image.{Image}
use Rattle.extent_pages.specs.declared.fault.PageRule.TheVariants as rule
use Rattle.extent_pages.specs.Pages.{Book, pages_of, Fault, ◌andthen◌, chain_from}
use Rattle.extent_pages.specs.declared.root.Root.{Root}
use Rattle.extent_pages.specs.Contents.{directory_of, leaf_of}

-- a leaf: its number, the pages of its chain, and its objects by their names
pub record Leaf : Type 0 where
  pub number : ℕ
  pub pages : List ℕ
  pub objects : List (ℕ × Object)

-- What a root stands for, and where it lies: the number of the commit up to which it goes, the pages
-- of the directory, and the leaves in the directory's order.
pub record Extent : Type 0 where
  pub number : ℕ
  pub directory : List ℕ
  pub leaves : List Leaf

-- all objects of an extent, by their names
abbrev pub objects_of : Extent → List (ℕ × Object)
objects_of extent = flat_map (λ leaf. leaf.objects) extent.leaves

-- the image that an extent holds
abbrev pub image_in : Extent → Image
image_in extent = from_entries {R = nat_cmp} (objects_of extent)

-- all pages of the leaves, and all that an extent uses but the page of its root
abbrev pub pages_of_leaves : List Leaf → List ℕ
pages_of_leaves leaves = flat_map (λ leaf. leaf.pages) leaves

abbrev pub pages_used : Extent → List ℕ
pages_used extent = extent.directory ++ pages_of_leaves extent.leaves

-- ---- Roots.

abbrev pub root_in : List ℕ → Root
root_in bytes = record {
  number = from_le_bytes w64 (take 8 bytes);
  serial = from_le_bytes w32 (take 4 (drop 8 bytes));
  objects = from_le_bytes w64 (take 8 (drop 12 bytes));
  directory = from_le_bytes w32 (take 4 (drop 20 bytes));
  pages = from_le_bytes w32 (take 4 (drop 24 bytes));
}

abbrev pub root_at : ℕ → Option (List ℕ) → Result Root Fault
root_at page None = Err (page, rule.Outside)
root_at page (Some bytes) = Ok (root_in bytes)

-- a serial, or that of an object's name, where it is larger
abbrev pub larger_serial : ℕ → ℕ × Object → ℕ
larger_serial largest entry = max largest (serial_of entry.0)

-- the largest serial of the names of objects; 0 where there is none
abbrev pub largest_serial : List (ℕ × Object) → ℕ
largest_serial objects = fold larger_serial 0 objects

abbrev pub first_page : List ℕ → ℕ
first_page [] = 0
first_page (page ∷ pages) = page

-- the root of an extent
abbrev pub root_of : Extent → Root
root_of extent = record {
  number = extent.number;
  serial = largest_serial (objects_of extent);
  objects = length (objects_of extent);
  directory = first_page extent.directory;
  pages = length (pages_used extent);
}

-- the number is one that a root may have, and the counts and the largest serial agree
abbrev pub is_counted : Root → Extent → Bool
is_counted root extent = nat_lt root.number (2 ^ 63)
    && ((root.serial == largest_serial (objects_of extent))
    && ((root.objects == length (objects_of extent))
    && (root.pages == length (pages_used extent))))

abbrev pub counted : ℕ → Root → Extent → Result Extent Fault
counted page root extent =
    if is_counted root extent then Ok extent else Err (page, rule.Count)

-- ---- What stands in a book.

-- the leaf of an entry of a directory, where these pages are taken
abbrev pub leaf_in : Book → List ℕ → ℕ × ℕ → Result Leaf Fault
leaf_in book taken entry = chain_from book taken entry.1 andthen λ chain.
    leaf_of entry.0 chain andthen λ objects.
    Ok (record { number = entry.0; pages = chain.pages; objects = objects })

-- the leaves of these entries of a directory, where these pages are taken
abbrev pub leaves_at : Book → List ℕ → List (ℕ × ℕ) → Result (List Leaf) Fault
leaves_at book taken [] = Ok []
leaves_at book taken (entry ∷ entries) = leaf_in book taken entry andthen λ leaf.
    leaves_at book (leaf.pages ++ taken) entries andthen λ leaves. Ok (leaf ∷ leaves)

-- What the root in a page stands for, or the first fault: pages are taken as the root, then the
-- directory's chain, then the leaves in the directory's order. All rules of pages are tried along a
-- chain before what it holds; the counts come last.
abbrev pub extent_at : Book → ℕ → Result Extent Fault
extent_at book page = root_at page (book page) andthen λ root.
    chain_from book [] root.directory andthen λ chain.
    directory_of chain andthen λ entries.
    leaves_at book chain.pages entries andthen λ leaves.
    counted page root (record { number = root.number; directory = chain.pages; leaves = leaves })

-- ---- What a file stands for.

-- the page of the root that a selector names
abbrev pub root_page_of : ℕ → ℕ
root_page_of selector = if selector % 2 == 1 then 1 else 2

-- the page of the root that a file's second byte names
abbrev pub selected : List ℕ → ℕ
selected file = root_page_of (get_or file 1 0)

abbrev pub found : Result Extent Fault → Result (Option Extent) Fault
found (Ok extent) = Ok (Some extent)
found (Err fault) = Err fault

-- What a file stands for: nothing, where it has one byte at most or its first byte, the gate, isn't
-- 1; otherwise what the root stands for that its second byte, the selector, names.
abbrev pub extent_of : List ℕ → Result (Option Extent) Fault
extent_of [] = Ok None
extent_of (gate ∷ []) = Ok None
extent_of (gate ∷ selector ∷ rest) = if gate == 1
    then found (extent_at (pages_of (gate ∷ selector ∷ rest)) (root_page_of selector))
    else Ok None

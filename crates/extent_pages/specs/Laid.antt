-- How an extent lies in the pages of a book.
use Rattle.std.specs.Prelude.{◌≡◌, ℕ, ◌≤◌, true, List, [], ◌∷◌, ◌++◌, length, get_or, map, Some, Ok}
use Rattle.extent_pages.specs.Pages.{most_pages, Book, pages_of, payload_in, next_in, is_filled, is_one_of, is_free, Chain}
use Rattle.extent_pages.specs.Contents.{directory_of, leaf_of}
use Rattle.extent_pages.specs.Extent.{Leaf, Extent, root_in, is_counted, first_page, pages_used, selected}

-- a page of a chain, with this one behind it
pub record IsPage (book : Book) (page next : ℕ) (bytes : List ℕ) : Type 0 where
  pub there : book page ≡ Some bytes
  pub next_is : next_in bytes ≡ next
  pub filled : is_filled bytes ≡ true

-- pages that are linked, one to the next, and hold this payload
abbrev pub Links : Book → List ℕ → List ℕ → Type 0
Links book [] payload = ⊥
Links book (page ∷ []) payload =
    (bytes : List ℕ) × IsPage book page 0 bytes × (payload ≡ payload_in bytes)
Links book (page ∷ next ∷ pages) payload =
    (bytes : List ℕ) × (rest : List ℕ) × IsPage book page next bytes
    × (payload ≡ payload_in bytes ++ rest) × Links book (next ∷ pages) rest

-- pages that a chain may use where these are taken; none is used twice
abbrev pub AreFree : List ℕ → List ℕ → Type 0
AreFree taken [] = Unit {0}
AreFree taken (page ∷ pages) = (is_free taken page ≡ true) × AreFree (page ∷ taken) pages

-- a chain that lies in the book, where these pages are taken
pub record IsChain (book : Book) (taken : List ℕ) (chain : Chain) : Type 0 where
  pub links : Links book chain.pages chain.payload
  pub free : AreFree taken chain.pages
  pub short : length chain.pages ≤ most_pages

-- a leaf that lies in the book, where these pages are taken
pub record LeafLies (book : Book) (taken : List ℕ) (leaf : Leaf) : Type 0 where
  pub payload : List ℕ
  pub chain : IsChain book taken (record { pages = leaf.pages; payload = payload })
  pub holds : leaf_of leaf.number (record { pages = leaf.pages; payload = payload })
      ≡ Ok leaf.objects

-- leaves that lie in the book, none in a page of those before it
abbrev pub LeavesLie : Book → List ℕ → List Leaf → Type 0
LeavesLie book taken [] = Unit {0}
LeavesLie book taken (leaf ∷ leaves) =
    LeafLies book taken leaf × LeavesLie book (leaf.pages ++ taken) leaves

-- the entries of a directory of these leaves
abbrev pub entries_of : List Leaf → List (ℕ × ℕ)
entries_of leaves = map (λ leaf. (leaf.number, first_page leaf.pages)) leaves

-- the extent lies in the book, with its root in this page
pub record IsLaid (book : Book) (page : ℕ) (extent : Extent) : Type 0 where
  pub bytes : List ℕ
  pub there : book page ≡ Some bytes
  pub number : (root_in bytes).number ≡ extent.number
  pub counted : is_counted (root_in bytes) extent ≡ true
  pub first : (root_in bytes).directory ≡ first_page extent.directory
  pub payload : List ℕ
  pub chain : IsChain book [] (record { pages = extent.directory; payload = payload })
  pub entries : directory_of (record { pages = extent.directory; payload = payload })
      ≡ Ok (entries_of extent.leaves)
  pub leaves : LeavesLie book extent.directory extent.leaves

-- what stands in these pages of the one book stands there in the other too
abbrev pub KeepsPages : List ℕ → Book → Book → Type 0
KeepsPages pages book other = (page : ℕ) (bytes : List ℕ) → is_one_of page pages ≡ true
    → book page ≡ Some bytes → other page ≡ Some bytes

-- the pages on which it depends what a file stands for, beside its first two bytes
abbrev pub kept_pages : List ℕ → Extent → List ℕ
kept_pages file extent = selected file ∷ pages_used extent

-- the file stands for the extent: its gate is open, and its selector names a root of which the
-- extent lies there
pub record IsOpen (file : List ℕ) (extent : Extent) : Type 0 where
  pub long : 2 ≤ length file
  pub gate : get_or file 0 0 ≡ 1
  pub laid : IsLaid (pages_of file) (selected file) extent

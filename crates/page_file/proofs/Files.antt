-- What stays of a file, and what a file with a closed gate stands for.
use Rattle.std.proofs.Common.{◌≡◌, ◌⊎◌, ◌≢◌, ℕ, ◌+◌, ◌*◌, ◌%◌, ◌≤◌, ◌<◌, Bool, true, false, cond, not, eqb, ltb, leb, List, [], ◌∷◌, ◌++◌, length, take, drop, get_or, Option, Some, None, Result, Ok, Err, refl, sym, ap, subst, ◌∙◌, inl, inr, arith}
use Rattle.std.proofs.lemmas.Bool.{false≢true, eqb-true}
use Rattle.std.proofs.lemmas.Bool.Decides.{nat_tests}
use Rattle.gem_disk.specs.Disk.{placed, Torn}
use Rattle.disk_pieces.specs.Pieces.{Misses, Keeps}
use Rattle.disk_pieces.proofs.Pieces.{keeps_all, keeps_torn}
use Rattle.extent_pages.specs.Pages.{page_size, most_pages, Book, page_of, is_inside, pages_of, is_one_of, Chain, Fault}
use Rattle.extent_pages.specs.Extent.{Leaf, Extent, pages_of_leaves, pages_used, root_page_of, selected, found, extent_at}
use Rattle.extent_pages.specs.Laid.{Links, AreFree, IsChain, LeavesLie, IsLaid, KeepsPages}
use Rattle.extent_pages.proofs.Tests.{both_true, one_here, one_left}
use Rattle.extent_pages.proofs.Frame.{laid_kept}
use Rattle.extent_plan.proofs.Lays.{one_of_either, one_of_first}
use Rattle.page_file.specs.Checkpoint.{kept_of, other_page, IsClosed, HasNone}

-- ---- The first two bytes.

pub first_in_front : (file : List ℕ) → get_or (take 1 file) 0 0 ≡ get_or file 0 0
first_in_front [] = refl
first_in_front (gate ∷ file) = refl

pub second_behind : (file : List ℕ) → get_or (drop 1 file) 0 0 ≡ get_or file 1 0
second_behind [] = refl
second_behind (gate ∷ file) = refl

pub same_first : (file image : List ℕ) → take 1 image ≡ take 1 file → get_or image 0 0 ≡ get_or file 0 0
same_first file image e = sym (first_in_front image) ∙ ap (λ (l : List ℕ). get_or l 0 0) e ∙ first_in_front file

pub same_second : (file image : List ℕ) → drop 1 image ≡ drop 1 file → get_or image 1 0 ≡ get_or file 1 0
same_second file image e = sym (second_behind image) ∙ ap (λ (l : List ℕ). get_or l 0 0) e ∙ second_behind file

second_in_front : (file : List ℕ) → get_or (take 2 file) 1 0 ≡ get_or file 1 0
second_in_front [] = refl
second_in_front (gate ∷ []) = refl
second_in_front (gate ∷ selector ∷ file) = refl

pub same_selected : (file image : List ℕ) → take 2 image ≡ take 2 file → selected image ≡ selected file
same_selected file image e = ap root_page_of (sym (second_in_front image) ∙ ap (λ (l : List ℕ). get_or l 1 0) e ∙ second_in_front file)

-- ---- A file that stands for no checkpoint.

abbrev none : Result (Option Extent) Fault
none = Ok None

found_none : {G : Type 0} (r : Result Extent Fault) → found r ≡ none → G
found_none (Ok x) e = absurd cc
found_none (Err fault) e = absurd cc

pub closed_none : (file : List ℕ) → IsClosed file → HasNone file
closed_none [] closed = refl
closed_none (gate ∷ []) closed = refl
closed_none (gate ∷ selector ∷ rest) closed = by (eqb gate 1) refl
  where
    by : (b : Bool) → eqb gate 1 ≡ b
        → cond b (found (extent_at (pages_of (gate ∷ selector ∷ rest)) (root_page_of selector))) none ≡ none
    by true one = absurd (closed.gate (eqb-true _ _ one))
    by false one = refl

pub none_closed : (file : List ℕ) → 2 ≤ length file → HasNone file → IsClosed file
none_closed [] long e = absurd (omega (arith, long))
none_closed (gate ∷ []) long e = absurd (omega (arith, long))
none_closed (gate ∷ selector ∷ rest) long e = record { some = omega arith; gate = by (eqb gate 1) refl e }
  where
    by : (b : Bool) → eqb gate 1 ≡ b
        → cond b (found (extent_at (pages_of (gate ∷ selector ∷ rest)) (root_page_of selector))) none ≡ none → gate ≢ 1
    by true one is = found_none (extent_at (pages_of (gate ∷ selector ∷ rest)) (root_page_of selector)) is
    by false one is = grind (arith, nat_tests, one)

pub short_none : (file : List ℕ) → length file ≤ 1 → HasNone file
short_none [] short = refl
short_none (gate ∷ []) short = refl
short_none (gate ∷ selector ∷ rest) short = absurd (omega (arith, short))

pub closed_kept : (file image : List ℕ) → IsClosed file → take 1 image ≡ take 1 file → length file ≤ length image
    → IsClosed image
closed_kept file image closed same long = record {
  some = omega (arith, closed.some, long);
  gate = λ one. closed.gate (sym (same_first file image same) ∙ one);
}

-- ---- Pages that stay.

pub keeps_pages : (front : ℕ) (pages file image : List ℕ) → Keeps (kept_of front pages) file image
    → KeepsPages pages (pages_of file) (pages_of image)
keeps_pages front pages file image keeps page bytes one there = by (is_inside file page) refl there
  where
    by : (b : Bool) → is_inside file page ≡ b → cond b (Some (page_of file page)) None ≡ Some bytes
        → pages_of image page ≡ Some bytes
    by false is e = absurd cc
    by true is e =
        let both = both_true (ltb page most_pages) (leb (page_size * page + page_size) (length file)) is in
        let within : page_size * page + page_size ≤ length file = grind (arith, nat_tests, both.1) in
        let inside : is_inside image page ≡ true = grind (arith, nat_tests, both.0, within, keeps.no_shorter) in
        ap (λ b. cond b (Some (page_of image page)) None) inside
        ∙ ap (λ (l : List ℕ). Some l) (keeps.same page one within)
        ∙ e

-- a torn byte in front of the pages leaves them
pub byte_keeps : (at : ℕ) (pages written image : List ℕ) → at < page_size
    → ((page : ℕ) → is_one_of page pages ≡ true → 1 ≤ page) → Torn at 1 written image
    → KeepsPages pages (pages_of written) (pages_of image)
byte_keeps at pages written image low from torn = keeps_pages at pages written image
    (keeps_torn (kept_of at pages) written written image at 1 misses (keeps_all (kept_of at pages) written) torn)
  where
    misses : Misses (kept_of at pages) at 1
    misses = record {
      front = omega arith;
      blocks = λ page one. let some = from page one in inr (omega (arith, low, some));
    }

-- ---- The pages that an extent uses.

module _ (P : ℕ → Type 0) where
  -- each of these pages has P
  abbrev pub Each : List ℕ → Type 0
  Each pages = (page : ℕ) → is_one_of page pages ≡ true → P page

  pub each_of_both : (pages more : List ℕ) → Each pages → Each more → Each (pages ++ more)
  each_of_both pages more first second page one = elim (one_of_either page pages more one) [
    | inl here ↦ first page here
    | inr there ↦ second page there
  ]

  pub each_with : (page : ℕ) (pages : List ℕ) → P page → Each pages → Each (page ∷ pages)
  each_with page pages has rest other one = elim (one_of_first other page pages one) [
    | inl same ↦ subst P (sym same) has
    | inr behind ↦ rest other behind
  ]

  module _ (book : Book) (chains : (taken : List ℕ) (chain : Chain) → IsChain book taken chain → Each chain.pages) where
    each_of_leaves : (taken : List ℕ) (leaves : List Leaf) → LeavesLie book taken leaves → Each (pages_of_leaves leaves)
    each_of_leaves taken [] lie page one = absurd (false≢true one)
    each_of_leaves taken (leaf ∷ leaves) (lies, lie) page one = each_of_both leaf.pages (pages_of_leaves leaves)
        (chains taken (record { pages = leaf.pages; payload = lies.payload }) lies.chain) (each_of_leaves (leaf.pages ++ taken) leaves lie) page one

    pub each_used : (page : ℕ) (extent : Extent) → IsLaid book page extent → Each (pages_used extent)
    each_used page extent laid = each_of_both extent.directory (pages_of_leaves extent.leaves)
        (chains [] (record { pages = extent.directory; payload = laid.payload }) laid.chain) (each_of_leaves extent.directory extent.leaves laid.leaves)

IsFar : ℕ → Type 0
IsFar page = 3 ≤ page

free_far : (taken pages : List ℕ) → AreFree taken pages → Each IsFar pages
unfolding IsFar
free_far taken [] free page one = absurd (false≢true one)
free_far taken (page ∷ pages) (here, free) other one = each_with IsFar page pages low (free_far (page ∷ taken) pages free) other one
  where
    low : 3 ≤ page
    low = let both = both_true (leb 3 page) (not (is_one_of page taken)) here in grind (arith, nat_tests, both.0)

pub used_far : (book : Book) (page : ℕ) (extent : Extent) → IsLaid book page extent → (other : ℕ)
    → is_one_of other (pages_used extent) ≡ true → 3 ≤ other
unfolding IsFar
used_far book page extent laid = each_used IsFar book (λ taken chain is. free_far taken chain.pages is.free) page extent laid

abbrev pub IsWithin : List ℕ → ℕ → Type 0
IsWithin file page = page_size * page + page_size ≤ length file

there_within : (file : List ℕ) (page : ℕ) (bytes : List ℕ) → pages_of file page ≡ Some bytes → IsWithin file page
there_within file page bytes there = by (is_inside file page) refl there
  where
    by : (b : Bool) → is_inside file page ≡ b → cond b (Some (page_of file page)) None ≡ Some bytes → IsWithin file page
    by false is e = absurd cc
    by true is e = let both = both_true (ltb page most_pages) (leb (page_size * page + page_size) (length file)) is in grind (arith, nat_tests, both.1)

links_within : (file : List ℕ) (pages payload : List ℕ) → Links (pages_of file) pages payload → Each (IsWithin file) pages
links_within file [] payload links = absurd links
links_within file (page ∷ []) payload (bytes, is, holds) = each_with (IsWithin file) page [] (there_within file page bytes is.there) (λ other one. absurd (false≢true one))
links_within file (page ∷ next ∷ pages) payload (bytes, rest, is, holds, links) =
    each_with (IsWithin file) page (next ∷ pages) (there_within file page bytes is.there) (links_within file (next ∷ pages) rest links)

pub used_within : (file : List ℕ) (page : ℕ) (extent : Extent) → IsLaid (pages_of file) page extent → (other : ℕ)
    → is_one_of other (pages_used extent) ≡ true → IsWithin file other
used_within file page extent laid = each_used (IsWithin file) (pages_of file) (λ taken chain is. links_within file chain.pages chain.payload is.links) page extent laid

-- a directory has a page, which is behind the first three
pub laid_long : (file : List ℕ) (page : ℕ) (extent : Extent) → IsLaid (pages_of file) page extent
    → page_size * 3 ≤ length file
laid_long file page extent laid = by extent.directory laid.chain.links
    (λ other one. used_far (pages_of file) page extent laid other (one_left other extent.directory (pages_of_leaves extent.leaves) one))
    (λ other one. used_within file page extent laid other (one_left other extent.directory (pages_of_leaves extent.leaves) one))
  where
    by : (pages : List ℕ) → Links (pages_of file) pages laid.payload
        → ((other : ℕ) → is_one_of other pages ≡ true → 3 ≤ other)
        → ((other : ℕ) → is_one_of other pages ≡ true → IsWithin file other)
        → page_size * 3 ≤ length file
    by [] links far within = absurd links
    by (first ∷ pages) links far within = let low = far first (one_here first pages) in let inside = within first (one_here first pages) in omega (arith, low, inside)

-- an extent that lies in a file lies there still where a byte in front of its pages was torn
pub laid_still : (at : ℕ) (written image : List ℕ) (page : ℕ) (extent : Extent) → at < page_size → 1 ≤ page
    → Torn at 1 written image
    → IsLaid (pages_of written) page extent → IsLaid (pages_of image) page extent
laid_still at written image page extent low some torn laid =
    let all : Each (λ (p : ℕ). 1 ≤ p) (page ∷ pages_used extent) =
    each_with (λ (p : ℕ). 1 ≤ p) page (pages_used extent) some (λ p one. let far = used_far (pages_of written) page extent laid p one in omega (arith, far)) in
    laid_kept (pages_of written) (pages_of image) page extent (byte_keeps at (page ∷ pages_used extent) written image low all torn) laid

-- ---- The two roots.

abbrev pub IsRootPage : ℕ → Type 0
IsRootPage page = (page ≡ 1) ⊎ (page ≡ 2)

-- whatever a selector is, it names one of the two
pub is_root : (selector : ℕ) → IsRootPage (root_page_of selector)
is_root selector = by (eqb (selector % 2) 1)
  where
    by : (b : Bool) → IsRootPage (cond b 1 2)
    by true = inl refl
    by false = inr refl

pub other_is_root : (page : ℕ) → IsRootPage page → IsRootPage (other_page page)
other_is_root page (inl one) = inr (ap other_page one)
other_is_root page (inr two) = inl (ap other_page two)

pub same_or_other : (page other : ℕ) → IsRootPage page → IsRootPage other → (other ≡ page) ⊎ (other ≡ other_page page)
same_or_other page other (inl one) (inl first) = inl (first ∙ sym one)
same_or_other page other (inl one) (inr second) = inr (second ∙ ap other_page (sym one))
same_or_other page other (inr two) (inl first) = inr (first ∙ ap other_page (sym two))
same_or_other page other (inr two) (inr second) = inl (second ∙ sym two)

pub from_one : (page : ℕ) → IsRootPage page → 1 ≤ page
from_one page (inl one) = omega (arith, one)
from_one page (inr two) = omega (arith, two)

-- the number of a root's page names that root
pub names_itself : (page : ℕ) → IsRootPage page → root_page_of page ≡ page
names_itself page (inl one) = ap root_page_of one ∙ sym one
names_itself page (inr two) = ap root_page_of two ∙ sym two

pub second_placed : (byte : ℕ) (file : List ℕ) → 2 ≤ length file → get_or (placed 1 (byte ∷ []) file) 1 0 ≡ byte
second_placed byte [] long = absurd (omega (arith, long))
second_placed byte (gate ∷ []) long = absurd (omega (arith, long))
second_placed byte (gate ∷ selector ∷ rest) long = refl

pub first_placed : (byte : ℕ) (file : List ℕ) → get_or (placed 0 (byte ∷ []) file) 0 0 ≡ byte
first_placed byte [] = refl
first_placed byte (gate ∷ rest) = refl

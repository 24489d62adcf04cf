-- The pieces of a plan are pages in ascending order, without a gap, none of which is kept.
use Rattle.std.proofs.Common.{◌≡◌, ◌⊎◌, inl, inr, ℕ, ◌+◌, ◌-◌, ◌*◌, ◌≤◌, ◌<◌, max, true, false, List, [], ◌∷◌, ◌++◌, length, take, drop, refl, sym, subst, ◌∙◌, arith}
use Rattle.std.proofs.lemmas.Bool.{false≢true}
use Rattle.std.proofs.lemmas.List.{length-take-le}
use Rattle.disk_pieces.specs.Pieces.{Piece, end_of, Reach, Ascend, Kept, AllMiss}
use Rattle.extent_pages.specs.Pages.{page_size, payload_size, is_one_of}
use Rattle.extent_pages.specs.Spelled.{spelled_directory, spelled_leaf}
use Rattle.extent_pages.specs.Extent.{Leaf, Extent}
use Rattle.extent_pages.specs.Laid.{entries_of}
use Rattle.extent_pages.proofs.Back.{page_long}
use Rattle.extent_plan.specs.Runs.{behind, AreKept, IsRun}
use Rattle.extent_plan.specs.Pieces.{chain_pieces, Fills}
use Rattle.extent_plan.specs.Plan.{RenewsTo, Around, IsPlanned}

module _ (kept : List ℕ) where
  -- a whole page, from one on, that isn't kept; those between are
  pub record IsPageFrom (from page : ℕ) (piece : Piece) : Type 0 where
    pub at : piece.at ≡ page_size * page
    pub long : length piece.bytes ≡ page_size
    pub least : from ≤ page
    pub free : is_one_of page kept ≡ false
    pub between : AreKept kept from page

  -- pieces that are such pages, one behind the other
  abbrev pub PagesFrom : ℕ → List Piece → Type 0
  PagesFrom from [] = Unit {0}
  PagesFrom from (piece ∷ pieces) = (page : ℕ) × IsPageFrom from page piece × PagesFrom (page + 1) pieces

  pub chain_pages : (from : ℕ) (pages payload : List ℕ) (more : List Piece) → IsRun kept from pages
      → Fills pages payload → PagesFrom (behind from pages) more → PagesFrom from (chain_pieces pages payload ++ more)
  chain_pages from [] payload more run fills others = others
  chain_pages from (page ∷ []) payload more run fills others = (
    page,
    record { at = refl; long = page_long 0 payload fills.1; least = run.0; free = run.1; between = run.3 },
    others,
  )
  chain_pages from (page ∷ next ∷ pages) payload more run fills others =
      let part = take payload_size payload in
      let long : length part ≡ payload_size = length-take-le payload_size payload (omega (arith, fills.0)) in (
        page,
        record { at = refl; long = page_long next part (omega (arith, long)); least = run.0; free = run.1; between = run.3 },
        chain_pages (page + 1) (next ∷ pages) (drop payload_size payload) more run.4 fills.1 others,
      )

  pub renewed_pages : (old : List Leaf) (from : ℕ) (leaves : List Leaf) (pieces : List Piece) (left : List Leaf) (next : ℕ)
      → RenewsTo kept old from leaves pieces left next → PagesFrom from pieces
  renewed_pages old from [] pieces left next renews = subst (PagesFrom from) (sym renews.0) tt
  renewed_pages old from (leaf ∷ leaves) pieces left next (inl r) = subst (PagesFrom from) (sym r.1.1)
      (chain_pages from leaf.pages (spelled_leaf leaf.objects) r.1.0 r.0.run r.0.fills
      (renewed_pages old (behind from leaf.pages) leaves r.1.0 left next r.1.2))
  renewed_pages old from (leaf ∷ leaves) pieces left next (inr s) =
      renewed_pages s.1 from leaves pieces left next s.3

  -- all that a plan writes behind the pages in front
  pub planned_pages : (old : List Leaf) (page : ℕ) (around : Around) (extent : Extent) (pieces : List Piece)
      → (plan : IsPlanned kept old page around extent pieces)
      → PagesFrom 3 (chain_pieces extent.directory (spelled_directory (entries_of extent.leaves)) ++ plan.leaf_pieces)
  planned_pages old page around extent pieces plan =
      chain_pages 3 extent.directory (spelled_directory (entries_of extent.leaves)) plan.leaf_pieces plan.run plan.fills
      (renewed_pages old (behind 3 extent.directory) extent.leaves plan.leaf_pieces plan.left plan.next plan.renews)

  -- ---- order

  pub pages_ascend : (from : ℕ) (pieces : List Piece) (at : ℕ) → at ≤ page_size * from → PagesFrom from pieces → Ascend at pieces
  pages_ascend from [] at before pages = tt
  pages_ascend from (piece ∷ pieces) at before (page, is, others) = (
    omega (arith, before, is.at, is.least),
    pages_ascend (page + 1) pieces (end_of piece) (omega (arith, is.at, is.long)) others,
  )

  -- Pages that are kept lie inside the file, so each piece begins inside it or at its end.
  pub pages_reach : (from : ℕ) (pieces : List Piece) (size : ℕ) → page_size * from ≤ size
      → ((page : ℕ) → is_one_of page kept ≡ true → page_size * page + page_size ≤ size)
      → PagesFrom from pieces → Reach size pieces
  pages_reach from [] size inside kept_inside pages = tt
  pages_reach from (piece ∷ pieces) size inside kept_inside (page, is, others) = (
    begins,
    pages_reach (page + 1) pieces (max size (end_of piece)) (omega (arith, is.at, is.long))
        (λ p one. omega (arith, kept_inside p one)) others,
  ) where
    either : (a b : ℕ) → (a < b) ⊎ (b ≤ a)
    either a b = search arith

    before : (from < page) ⊎ (page ≤ from) → piece.at ≤ size
    before (inl above) =
        let last = kept_inside (page - 1) (is.between (page - 1) (omega (arith, above)) (omega (arith, above))) in
        omega (arith, is.at, above, last)
    before (inr not_above) = omega (arith, is.at, is.least, not_above, inside)

    begins : piece.at ≤ size
    begins = before (either from page)

  -- what has to stay is a front, and blocks that are kept pages or the first three
  pub record Stays (keep : Kept) : Type 0 where
    pub size : keep.size ≡ page_size
    pub front : keep.front ≤ page_size * 3
    pub blocks : (block : ℕ) → keep.blocks block ≡ true → (block < 3) ⊎ (is_one_of block kept ≡ true)

  pub pages_miss : (keep : Kept) (from : ℕ) (pieces : List Piece) → Stays keep → 3 ≤ from → PagesFrom from pieces
      → AllMiss keep pieces
  pages_miss keep from [] stays high pages = tt
  pages_miss keep from (piece ∷ pieces) stays high (page, is, others) = (
    record {
      front = omega (arith, stays.front, is.at, is.least, high);
      blocks = λ block yes_is. apart block (stays.blocks block yes_is);
    },
    pages_miss keep (page + 1) pieces stays (omega (arith, is.least, high)) others,
  ) where
    differ : (a b : ℕ) → (a ≡ b → ⊥) → (a < b) ⊎ (b < a)
    differ a b no_is = search arith

    aside : (block : ℕ) → (block < page) ⊎ (page < block)
        → (keep.size * block + keep.size ≤ piece.at) ⊎ (piece.at + length piece.bytes ≤ keep.size * block)
    aside block (inl below) = inl (subst (λ (n : ℕ). n * block + n ≤ piece.at) (sym stays.size) (omega (arith, below, is.at)))
    aside block (inr above) = inr (subst (λ (n : ℕ). piece.at + length piece.bytes ≤ n * block) (sym stays.size) (omega (arith, above, is.at, is.long)))

    other : (block : ℕ) → is_one_of block kept ≡ true → (block < page) ⊎ (page < block)
    other block one = differ block page (λ e. false≢true (sym is.free ∙ subst (λ (p : ℕ). is_one_of p kept ≡ true) e one))

    apart : (block : ℕ) → (block < 3) ⊎ (is_one_of block kept ≡ true)
        → (keep.size * block + keep.size ≤ piece.at) ⊎ (piece.at + length piece.bytes ≤ keep.size * block)
    apart block (inl low) = aside block (inl (omega (arith, low, is.least, high)))
    apart block (inr one) = aside block (other block one)

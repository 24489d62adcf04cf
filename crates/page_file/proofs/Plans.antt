-- A plan's pieces may be written, and lay the extent.
use Rattle.std.proofs.Common.{◌≡◌, ◌⊎◌, ℕ, ◌+◌, ◌*◌, ◌-◌, ◌≤◌, ◌<◌, max, true, List, [], ◌∷◌, ◌++◌, length, take, drop, get_or, Some, None, Ok, refl, sym, ap, subst, ◌∙◌, inl, inr, arith}
use Rattle.std.proofs.lemmas.Bool.{false≢true}
use Rattle.std.proofs.lemmas.List.{length-replicate, take-take}
use Rattle.gem_disk.specs.declared.disk.Which.TheVariants.{Extent as OfExtent}
use Rattle.gem_disk.specs.Disk.{Past, reads}
use Rattle.disk_pieces.specs.Pieces.{Piece, end_of, Reach, Ascend, Kept, Misses, AllMiss, Stands, Stand}
use Rattle.disk_pieces.specs.Crashes.{IsDurable}
use Rattle.extent_pages.specs.Pages.{page_size, is_one_of, pages_of}
use Rattle.extent_pages.specs.Spelled.{spelled_directory}
use Rattle.extent_pages.specs.Extent.{Extent, pages_of_leaves, pages_used, root_of, root_page_of, selected, extent_of}
use Rattle.extent_pages.specs.Laid.{entries_of, IsLaid, kept_pages}
use Rattle.extent_pages.proofs.Tests.{one_left, one_right}
use Rattle.extent_pages.proofs.Back.{root_page_long}
use Rattle.extent_pages.proofs.Frame.{laid_kept}
use Rattle.extent_pages.proofs.Files.{opened}
use Rattle.extent_plan.specs.Pieces.{chain_pieces}
use Rattle.extent_plan.specs.Plan.{root_piece, IsPlanned}
use Rattle.extent_plan.proofs.Lays.{one_of_first, planned_laid}
use Rattle.extent_plan.proofs.Order.{PagesFrom, planned_pages, pages_ascend, pages_reach, Stays, pages_miss}
use Rattle.page_file.specs.Around.{zeros, selector_piece, empty_piece, first_around, later_around}
use Rattle.page_file.specs.Checkpoint.{kept_of, other_page, Lays, MayRenew, MayBegin}
use Rattle.page_file.specs.Planned.{AreUsed}
use Rattle.page_file.proofs.Files.{first_in_front, second_behind, keeps_pages, used_far, used_within, laid_long, IsRootPage, is_root, other_is_root}

length-zeros : (count : ℕ) → length (zeros count) ≡ count
unfolding zeros
length-zeros count = length-replicate count 0

-- ---- A later checkpoint.

module _ (past : Past) (extent next : Extent) (pieces : List Piece) (stands : extent_of (reads past OfExtent) ≡ Ok (Some extent))
    (kept : List ℕ) (used : AreUsed kept extent) (plan : IsPlanned kept extent.leaves (other_page (selected (reads past OfExtent))) later_around next pieces) where
  abbrev file : List ℕ
  file = reads past OfExtent

  abbrev page : ℕ
  page = other_page (selected file)

  abbrev keep : Kept
  keep = kept_of 2 (kept_pages file extent)

  abbrev root : Piece
  root = root_piece page (root_of next)

  -- the pieces behind the root
  abbrev rest : List Piece
  rest = chain_pieces next.directory (spelled_directory (entries_of next.leaves)) ++ plan.leaf_pieces

  laid : IsLaid (pages_of file) (selected file) extent
  laid = (opened file extent stands).laid

  is_other : IsRootPage page
  is_other = other_is_root (selected file) (is_root (get_or file 1 0))

  low : (1 ≤ page) × (page ≤ 2)
  low = by is_other
    where
      by : IsRootPage page → (1 ≤ page) × (page ≤ 2)
      by (inl one) = (omega (arith, one), omega (arith, one))
      by (inr two) = (omega (arith, two), omega (arith, two))

  apart : (selected file < page) ⊎ (page < selected file)
  apart = by (is_root (get_or file 1 0))
    where
      by : IsRootPage (selected file) → (selected file < page) ⊎ (page < selected file)
      by (inl one) = inl (omega (arith, one))
      by (inr two) = inr (omega (arith, two))

  root_long : length root.bytes ≡ page_size
  root_long = root_page_long (root_of next)

  pages : PagesFrom kept 3 rest
  pages = planned_pages kept extent.leaves page later_around next pieces plan

  far : (block : ℕ) → keep.blocks block ≡ true → (block ≡ selected file) ⊎ (is_one_of block (pages_used extent) ≡ true)
  far block one = one_of_first block (selected file) (pages_used extent) one

  stays : Stays kept keep
  stays = record {
    size = refl;
    front = omega arith;
    blocks = λ block one. by block (far block one);
  }
    where
      by : (block : ℕ) → (block ≡ selected file) ⊎ (is_one_of block (pages_used extent) ≡ true)
          → (block < 3) ⊎ (is_one_of block kept ≡ true)
      by block (inl same) = inl (below (is_root (get_or file 1 0)))
        where
          below : IsRootPage (selected file) → block < 3
          below (inl one) = omega (arith, one, same)
          below (inr two) = omega (arith, two, same)
      by block (inr one) = inr (used block ∙ one)

  misses : Misses keep root.at (length root.bytes)
  misses = record {
    front = omega (arith, low.0);
    blocks = λ block one. by block (far block one);
  }
    where
      by : (block : ℕ) → (block ≡ selected file) ⊎ (is_one_of block (pages_used extent) ≡ true)
          → (page_size * block + page_size ≤ root.at) ⊎ (root.at + length root.bytes ≤ page_size * block)
      by block (inl same) = elim apart [
        | inl below ↦ inl (omega (arith, same, below))
        | inr above ↦ inr (omega (arith, same, above, root_long))
      ]
      by block (inr one) = let high = used_far (pages_of file) (selected file) extent laid block one in inr (omega (arith, high, low.1, root_long))

  whole : pieces ≡ root ∷ rest
  whole = plan.pieces_are

  long : page_size * 3 ≤ length file
  long = laid_long file (selected file) extent laid

  lays : Lays keep pieces file page next
  lays written brought =
      let still = laid_kept (pages_of file) (pages_of written) (selected file) extent (keeps_pages 2 (kept_pages file extent) file written brought.keeps) laid in
      planned_laid written kept extent.leaves page later_around next pieces extent.directory plan (omega (arith, low.1)) still.leaves
      (λ p one. used p ∙ one_right p extent.directory (pages_of_leaves extent.leaves) one)
      (λ p one. used p ∙ one_left p extent.directory (pages_of_leaves extent.leaves) one) brought.stand

  pub may_renew : IsDurable past → MayRenew past extent next (other_page (selected (reads past OfExtent))) pieces
  may_renew durable = record {
    stands = stands;
    other = refl;
    may = record {
      durable = durable;
      ascend = subst (Ascend 2) (sym whole) (omega (arith, low.0), pages_ascend kept 3 rest (end_of root) (omega (arith, low.1, root_long)) pages);
      miss = subst (AllMiss keep) (sym whole) (misses, pages_miss kept keep 3 rest stays (omega arith) pages);
    };
    reach = subst (Reach (length file)) (sym whole) (omega (arith, low.1, long), pages_reach kept 3 rest (max (length file) (end_of root)) (omega (arith, long)) inside pages);
    lays = lays;
  }
    where
      inside : (p : ℕ) → is_one_of p kept ≡ true → page_size * p + page_size ≤ max (length file) (end_of root)
      inside p one = let within = used_within file (selected file) extent laid p (sym (used p) ∙ one) in omega (arith, within)

-- ---- The first checkpoint.

module _ (past : Past) (next : Extent) (pieces : List Piece) (stands : extent_of (reads past OfExtent) ≡ Ok None) (plan : IsPlanned [] [] 1 first_around next pieces) where
  abbrev first_root : Piece
  first_root = root_piece 1 (root_of next)

  abbrev behind_it : List Piece
  behind_it = chain_pieces next.directory (spelled_directory (entries_of next.leaves)) ++ plan.leaf_pieces

  all_pieces : pieces ≡ selector_piece ∷ first_root ∷ empty_piece ∷ behind_it
  all_pieces = plan.pieces_are

  first_long : length first_root.bytes ≡ page_size
  first_long = root_page_long (root_of next)

  selector_long : length selector_piece.bytes ≡ page_size - 1
  selector_long = let size = length-zeros (page_size - 2) in omega (arith, size)

  empty_long : length empty_piece.bytes ≡ page_size
  empty_long = length-zeros page_size

  first_pages : PagesFrom [] 3 behind_it
  first_pages = planned_pages [] [] 1 first_around next pieces plan

  abbrev front_alone : Kept
  front_alone = kept_of 1 []

  free_of : (at n : ℕ) → 1 ≤ at → Misses front_alone at n
  free_of at n behind = record { front = behind; blocks = λ block one. absurd (false≢true one) }

  miss_from : (from : ℕ) (list : List Piece) → 1 ≤ from → Ascend from list → AllMiss front_alone list
  miss_from from [] low ascend = tt
  miss_from from (piece ∷ list) low (le, ascend) =
      (free_of piece.at (length piece.bytes) (omega (arith, le, low)), miss_from (end_of piece) list (omega (arith, le, low)) ascend)

  ascends : Ascend 1 pieces
  ascends = subst (Ascend 1) (sym all_pieces)
      (omega arith, (omega (arith, selector_long), (omega (arith, first_long), pages_ascend [] 3 behind_it (end_of empty_piece) (omega (arith, empty_long)) first_pages)))

  -- the first piece names the first root
  selects : (written : List ℕ) → Stands written selector_piece → (2 ≤ length written) × (selected written ≡ 1)
  selects written piece = (omega (arith, piece.inside, selector_long), ap root_page_of second)
    where
      second : get_or written 1 0 ≡ 1
      second = sym (second_behind written) ∙ sym (first_in_front (drop 1 written))
          ∙ ap (λ (l : List ℕ). get_or l 0 0) (sym (take-take 1 (length selector_piece.bytes) (drop 1 written) (omega (arith, selector_long))))
          ∙ ap (λ (l : List ℕ). get_or (take 1 l) 0 0) piece.reads

  pub may_begin : IsDurable past → MayBegin past next pieces
  may_begin durable = record {
    stands = stands;
    durable = durable;
    ascend = ascends;
    miss = miss_from 1 pieces (omega arith) ascends;
    reach = subst (Reach 1) (sym all_pieces) (
      omega arith,
      (
        omega (arith, selector_long),
        (
          omega (arith, first_long),
          pages_reach [] 3 behind_it (max (max (max 1 (end_of selector_piece)) (end_of first_root)) (end_of empty_piece)) (omega (arith, empty_long)) (λ p one. absurd (false≢true one)) first_pages,
        ),
      ),
    );
    lays = λ file written brought.
        let stand = subst (Stand written) all_pieces brought.stand in
        let chosen = selects written stand.0 in
        record {
          long = chosen.0;
          page = chosen.1;
          laid = subst (λ (p : ℕ). IsLaid (pages_of written) p next) (sym chosen.1)
              (planned_laid written [] [] 1 first_around next pieces [] plan (omega arith) tt (λ p one. absurd (false≢true one)) (λ p one. absurd (false≢true one)) brought.stand);
        };
  }

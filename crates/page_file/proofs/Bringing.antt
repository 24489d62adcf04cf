-- A checkpoint from what its disk calls leave.
use Rattle.std.proofs.Common.{◌≡◌, ℕ, ◌≤◌, max, List, [], ◌∷◌, length, Result, Ok, Err, OnOk, Some, None, sym, subst, inl, arith}
use Rattle.gem_disk.specs.declared.disk.Which.TheVariants.{Extent as OfExtent}
use Rattle.gem_disk.specs.Disk.{Past, reads, placed, Torn}
use Rattle.gem_disk.proofs.Placed.{length-placed}
use Rattle.disk_pieces.specs.Pieces.{Piece, end_of, Reach, Keeps, IsEither, IsSwitched}
use Rattle.disk_pieces.specs.Crashes.{IsDurable, OnlyLeaves, MayWrite, SwitchesLast}
use Rattle.disk_pieces.proofs.Crashes.{only_less, only_after, only_durable}
use Rattle.disk_pieces.proofs.Switching.{switches_none, switches_less, switches_after}
use Rattle.extent_pages.specs.Extent.{Extent, selected, extent_of}
use Rattle.extent_pages.specs.Pages.{pages_of}
use Rattle.extent_pages.specs.Laid.{IsLaid, kept_pages}
use Rattle.page_file.specs.Checkpoint.{kept_of, other_page, IsClosed, HasNone, HoldsEither, SwitchesFrom, Lays, MayRenew, MayBegin}
use Rattle.page_file.specs.Planned.{IsRooted}
use Rattle.page_file.proofs.Files.{short_none, none_closed, first_placed}
use Rattle.page_file.proofs.Images.{later_before, later_image, later_done, first_before, first_image, first_done}

-- what is held where a call succeeds
pub on_ok : {T E : Type 0} (P Q : Type 0) (result : Result T E) → (P → Q) → OnOk result P → OnOk result Q
on_ok P Q (Ok x) less has = less has
on_ok P Q (Err x) less has = tt

-- ---- A later checkpoint.

module _ (past new : Past) (extent next : Extent) (page : ℕ) (pieces : List Piece) (may : MayRenew past extent next page pieces) where
  abbrev file : List ℕ
  file = reads past OfExtent

  abbrev kept_now : List ℕ → Type 0
  kept_now image = IsEither (kept_of 2 (kept_pages file extent)) pieces 1 file image

  lays_other : Lays (kept_of 2 (kept_pages file extent)) pieces file (other_page (selected file)) next
  lays_other written brought = subst (λ (p : ℕ). IsLaid (pages_of written) p next) may.other (may.lays written brought)

  pub later_leaves : OnlyLeaves (IsEither (kept_of 2 (kept_pages (reads past OfExtent) extent)) pieces 1 (reads past OfExtent)) past new → OnlyLeaves (HoldsEither (Some extent) next) past new
  later_leaves only = only_less kept_now (λ image. HoldsEither (Some extent) next image) past new (later_image file extent next pieces may.stands lays_other) only

  pub later_switches : SwitchesLast (Keeps (kept_of 2 (kept_pages (reads past OfExtent) extent)) (reads past OfExtent)) 1 past new → SwitchesFrom (Some extent) past new
  later_switches is = switches_less (Keeps (kept_of 2 (kept_pages file extent)) file) (λ image. extent_of image ≡ Ok (Some extent)) 1 past new (later_before file extent next pieces may.stands lays_other) is

  pub later_made : {T E : Type 0} (result : Result T E)
      → OnOk result (IsSwitched (kept_of 2 (kept_pages (reads past OfExtent) extent)) pieces 1 page (reads past OfExtent) (reads new OfExtent))
      → OnOk result (IsRooted (reads new OfExtent) next page)
  later_made result done = on_ok (IsSwitched (kept_of 2 (kept_pages file extent)) pieces 1 page file (reads new OfExtent)) (IsRooted (reads new OfExtent) next page)
      result (λ switched. subst (IsRooted (reads new OfExtent) next) (sym may.other) (later_done file extent next pieces may.stands lays_other (reads new OfExtent) page may.other switched)) done

-- ---- The first checkpoint.

module _ (old mid : Past) (same : mid ≡ old) where
  -- where nothing was written
  pub none_still : IsDurable old → HasNone (reads old OfExtent) → OnlyLeaves HasNone old mid
  none_still durable none = subst (OnlyLeaves HasNone old) (sym same) (only_durable HasNone old durable none)

  -- where the gate was
  pub none_torn : (new : Past) → IsDurable old → length (reads mid OfExtent) ≤ 1
      → (IsDurable mid → OnlyLeaves (Torn 0 1 (reads mid OfExtent)) mid new) → OnlyLeaves HasNone old new
  none_torn new durable short only = subst (λ (p : Past). OnlyLeaves HasNone p new) same
      (only_less (λ image. Torn 0 1 (reads mid OfExtent) image) HasNone mid new (λ image torn. short_none image (omega (arith, short, torn.no_longer))) (only (subst IsDurable (sym same) durable)))

  pub closed_still : 2 ≤ length (reads mid OfExtent) → HasNone (reads old OfExtent) → IsClosed (reads mid OfExtent)
  closed_still long none = none_closed (reads mid OfExtent) long (subst (λ (p : Past). HasNone (reads p OfExtent)) (sym same) none)

pub gate_closed : {T E : Type 0} (mid new : Past) (result : Result T E)
    → OnOk result (reads new OfExtent ≡ placed 0 (0 ∷ []) (reads mid OfExtent))
    → OnOk result (IsClosed (reads new OfExtent))
gate_closed mid new result done = on_ok (reads new OfExtent ≡ placed 0 (0 ∷ []) (reads mid OfExtent)) (IsClosed (reads new OfExtent)) result
    (λ is. subst IsClosed (sym is) record {
      some = let size = length-placed 0 (0 ∷ []) (reads mid OfExtent) (omega arith) in omega (arith, size);
      gate = λ one. let shut = first_placed 0 (reads mid OfExtent) in absurd (omega (arith, shut, one));
    }) done

reach_more : (low size : ℕ) (pieces : List Piece) → low ≤ size → Reach low pieces → Reach size pieces
reach_more low size [] le reach = tt
reach_more low size (piece ∷ pieces) le (one, reach) = (omega (arith, le, one), reach_more (max low (end_of piece)) (max size (end_of piece)) pieces (omega (arith, le)) reach)

module _ (past mid : Past) (next : Extent) (pieces : List Piece) (may : MayBegin past next pieces) (closed : IsClosed (reads mid OfExtent)) (durable : IsDurable mid) where
  pub first_reaches : Reach (length (reads mid OfExtent)) pieces
  first_reaches = reach_more 1 (length (reads mid OfExtent)) pieces closed.some may.reach

  pub first_may : MayWrite mid (kept_of 1 []) pieces
  first_may = record { durable = durable; ascend = may.ascend; miss = may.miss }

  module _ (new : Past) where
    pub first_leaves : OnlyLeaves HasNone past mid
        → OnlyLeaves (IsEither (kept_of 1 []) pieces 0 (reads mid OfExtent)) mid new
        → OnlyLeaves (HoldsEither None next) past new
    first_leaves before only = only_after HasNone (λ image. HoldsEither None next image) past mid new before
        (only_less (λ image. IsEither (kept_of 1 []) pieces 0 (reads mid OfExtent) image) (λ image. HoldsEither None next image) mid new
        (first_image (reads mid OfExtent) next pieces closed (may.lays (reads mid OfExtent))) only) (λ image none. inl none)

    pub first_switches : OnlyLeaves HasNone past mid → SwitchesLast (Keeps (kept_of 1 []) (reads mid OfExtent)) 0 mid new → SwitchesFrom None past new
    first_switches before is = switches_after (λ image. HasNone image) 0 past mid new before
        (switches_less (Keeps (kept_of 1 []) (reads mid OfExtent)) (λ image. HasNone image) 0 mid new (first_before (reads mid OfExtent) next pieces closed (may.lays (reads mid OfExtent))) is)

    pub first_made : {T E : Type 0} (result : Result T E)
        → OnOk result (IsSwitched (kept_of 1 []) pieces 0 1 (reads mid OfExtent) (reads new OfExtent))
        → OnOk result (IsRooted (reads new OfExtent) next 1)
    first_made result done = on_ok (IsSwitched (kept_of 1 []) pieces 0 1 (reads mid OfExtent) (reads new OfExtent)) (IsRooted (reads new OfExtent) next 1) result
        (first_done (reads mid OfExtent) next pieces closed (may.lays (reads mid OfExtent)) (reads new OfExtent)) done

-- where the gate couldn't be closed
pub none_left : (past mid : Past) (next : Extent) → OnlyLeaves HasNone past mid
    → OnlyLeaves (HoldsEither None next) past mid
none_left past mid next only = only_less HasNone (λ image. HoldsEither None next image) past mid (λ image none. inl none) only

pub none_switches : (past mid : Past) → OnlyLeaves HasNone past mid → SwitchesFrom None past mid
none_switches past mid only = switches_none (λ image. HasNone image) 0 past mid only

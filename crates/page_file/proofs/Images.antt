-- What each crash image of a checkpoint stands for.
use Rattle.std.proofs.Common.{◌≡◌, ◌⊎◌, ℕ, ◌≤◌, Bool, true, false, eqb, List, [], ◌∷◌, get_or, Some, None, Ok, refl, sym, ap, subst, ◌∙◌, inl, inr, arith}
use Rattle.std.proofs.lemmas.Bool.{eqb-true}
use Rattle.std.proofs.lemmas.Bool.Decides.{nat_tests}
use Rattle.gem_disk.specs.Disk.{placed, Torn}
use Rattle.gem_disk.proofs.Leaves.{torn_by_placing}
use Rattle.disk_pieces.specs.Pieces.{Piece, Keeps, IsBrought, IsEither, IsSwitched}
use Rattle.extent_pages.specs.Pages.{pages_of}
use Rattle.extent_pages.specs.Extent.{Extent, root_page_of, selected, extent_of}
use Rattle.extent_pages.specs.Laid.{IsLaid, kept_pages, IsOpen}
use Rattle.extent_pages.proofs.Files.{opens, opened, open_kept}
use Rattle.page_file.specs.Checkpoint.{kept_of, other_page, IsClosed, HoldsEither, Lays, IsSelected}
use Rattle.page_file.specs.Planned.{IsRooted}
use Rattle.page_file.proofs.Files.{same_first, same_second, same_selected, closed_none, closed_kept, keeps_pages, laid_still, is_root, other_is_root, same_or_other, from_one, names_itself, second_placed, first_placed}

-- ---- A later checkpoint.

module _ (file : List ℕ) (extent next : Extent) (pieces : List Piece) (stands : extent_of file ≡ Ok (Some extent))
    (lays : Lays (kept_of 2 (kept_pages file extent)) pieces file (other_page (selected file)) next) where
  -- what is kept stands for the same
  kept_open : (image : List ℕ) → Keeps (kept_of 2 (kept_pages file extent)) file image → IsOpen image extent
  kept_open image keeps = open_kept file image extent keeps.front (keeps_pages 2 (kept_pages file extent) file image keeps) (opened file extent stands)

  module _ (written image : List ℕ) (brought : IsBrought (kept_of 2 (kept_pages file extent)) pieces file written) (torn : Torn 1 1 written image) where
    still : IsOpen written extent
    still = kept_open written brought.keeps

    chosen : selected written ≡ selected file
    chosen = same_selected file written brought.keeps.front

    -- the extent in that page stands, where the second byte names it
    image_open : (page : ℕ) (held : Extent) → 1 ≤ page → IsLaid (pages_of written) page held → selected image ≡ page
        → IsOpen image held
    image_open page held some laid names = record {
      long = omega (arith, still.long, torn.no_shorter);
      gate = same_first written image torn.before ∙ still.gate;
      laid = subst (λ (p : ℕ). IsLaid (pages_of image) p held) (sym names) (laid_still 1 written image page held (omega arith) some torn laid);
    }

    pub old_or_new : HoldsEither (Some extent) next image
    old_or_new = by (same_or_other (selected file) (selected image) (is_root (get_or file 1 0)) (is_root (get_or image 1 0)))
      where
        by : (selected image ≡ selected file) ⊎ (selected image ≡ other_page (selected file))
            → HoldsEither (Some extent) next image
        by (inl same) = inl (opens image extent (image_open (selected written) extent (from_one (selected written) (is_root (get_or written 1 0))) still.laid (same ∙ sym chosen)))
        by (inr other) = inr (opens image next (image_open (other_page (selected file)) next (from_one (other_page (selected file)) (other_is_root (selected file) (is_root (get_or file 1 0)))) (lays written brought) other))

  pub later_before : (image : List ℕ) → Keeps (kept_of 2 (kept_pages file extent)) file image → extent_of image ≡ Ok (Some extent)
  later_before image keeps = opens image extent (kept_open image keeps)

  pub later_image : (image : List ℕ) → IsEither (kept_of 2 (kept_pages file extent)) pieces 1 file image
      → HoldsEither (Some extent) next image
  later_image image (inl keeps) = inl (later_before image keeps)
  later_image image (inr (written, brought, torn)) = old_or_new written image brought torn

  -- once the selector has the number of the other root's page
  pub later_done : (now : List ℕ) (byte : ℕ) → byte ≡ other_page (selected file)
      → IsSwitched (kept_of 2 (kept_pages file extent)) pieces 1 byte file now
      → IsRooted now next (other_page (selected file))
  later_done now byte names switched =
      let written = switched.written in
      let long = (kept_open written switched.brought.keeps).long in
      let is = placed 1 (byte ∷ []) written in
      let torn : Torn 1 1 written is = torn_by_placing 1 (byte ∷ []) written (omega (arith, long)) in
      let other = other_is_root (selected file) (is_root (get_or file 1 0)) in
      let named : selected is ≡ other_page (selected file) =
      ap root_page_of (second_placed byte written long ∙ names) ∙ names_itself (other_page (selected file)) other in
      record {
        stands = ap extent_of switched.now_is
            ∙ opens is next (image_open written is switched.brought torn (other_page (selected file)) next (from_one (other_page (selected file)) other) (lays written switched.brought) named);
        page_is = ap selected switched.now_is ∙ named;
      }

-- ---- The first checkpoint.

module _ (file : List ℕ) (next : Extent) (pieces : List Piece) (closed : IsClosed file)
    (lays : (written : List ℕ) → IsBrought (kept_of 1 []) pieces file written → IsSelected written next) where
  module _ (written image : List ℕ) (brought : IsBrought (kept_of 1 []) pieces file written) (torn : Torn 0 1 written image) where
    second_same : selected image ≡ selected written
    second_same = ap root_page_of (same_second written image torn.after)

    -- where the gate is open, the extent stands
    gate_opens : get_or image 0 0 ≡ 1 → IsOpen image next
    gate_opens gate =
        let has = lays written brought in
        record {
          long = omega (arith, has.long, torn.no_shorter);
          gate = gate;
          laid = subst (λ (p : ℕ). IsLaid (pages_of image) p next) (sym second_same)
              (laid_still 0 written image (selected written) next (omega arith) (from_one (selected written) (is_root (get_or written 1 0))) torn has.laid);
        }

    none_or_new : HoldsEither None next image
    none_or_new = by (eqb (get_or image 0 0) 1) refl
      where
        by : (b : Bool) → eqb (get_or image 0 0) 1 ≡ b → HoldsEither None next image
        by true one = inr (opens image next (gate_opens (eqb-true _ _ one)))
        by false apart = inl (closed_none image record {
          some = let has = lays written brought in omega (arith, has.long, torn.no_shorter);
          gate = grind (arith, nat_tests, apart);
        })

  pub first_before : (image : List ℕ) → Keeps (kept_of 1 []) file image → extent_of image ≡ Ok None
  first_before image keeps = closed_none image (closed_kept file image closed keeps.front keeps.no_shorter)

  pub first_image : (image : List ℕ) → IsEither (kept_of 1 []) pieces 0 file image → HoldsEither None next image
  first_image image (inl keeps) = inl (first_before image keeps)
  first_image image (inr (written, brought, torn)) = none_or_new written image brought torn

  -- once the gate is open
  pub first_done : (now : List ℕ) → IsSwitched (kept_of 1 []) pieces 0 1 file now → IsRooted now next 1
  first_done now switched =
      let written = switched.written in
      let is = placed 0 (1 ∷ []) written in
      let torn : Torn 0 1 written is = torn_by_placing 0 (1 ∷ []) written (omega arith) in
      record {
        stands = ap extent_of switched.now_is ∙ opens is next (gate_opens written is switched.brought torn (first_placed 1 written));
        page_is = ap selected switched.now_is ∙ second_same written is switched.brought torn ∙ (lays written switched.brought).page;
      }

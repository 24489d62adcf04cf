-- A planned checkpoint, by what the file stands for before it.
use Rattle.std.proofs.Common.{◌≡◌, ℕ, ◌-◌, List, Option, Some, None, refl, sym, subst, inl, inr}
use Rattle.gem_disk.specs.declared.disk.Which.TheVariants.{Extent as OfExtent}
use Rattle.gem_disk.specs.Disk.{Past, reads}
use Rattle.gem_image.specs.Image.{Image}
use Rattle.disk_pieces.specs.Pieces.{Piece}
use Rattle.disk_pieces.specs.Crashes.{OnlyLeaves}
use Rattle.disk_pieces.proofs.Crashes.{only_less}
use Rattle.extent_pages.specs.Extent.{Extent, selected}
use Rattle.page_file.specs.Checkpoint.{other_page, HoldsEither, SwitchesFrom, MayRenew, MayBegin, StandsFor, IsCheckpoint}
use Rattle.page_file.specs.Planned.{root_before, MayCheckpoint}
use Rattle.page_file.proofs.Plans.{may_renew, may_begin}

abbrev some : ℕ → Option ℕ
some page = Some page

none_some : {G : Type 0} (page : ℕ) → None ≡ some page → G
none_some page e = absurd cc

some_is : (page other : ℕ) → some page ≡ some other → page ≡ other
some_is page other e = cc

-- either of two extents, as an image's
either_stands : (before : Option Extent) (next : Extent) (image : Image) (number : ℕ) → IsCheckpoint image number next
    → (file : List ℕ) → HoldsEither before next file → StandsFor before image number file
either_stands before next image number holds file (inl old) = inl old
either_stands before next image number holds file (inr new) = inr (next, new, holds)

module _ (past : Past) (image : Image) (number : ℕ) (pieces : List Piece) where
  module _ (before : Option Extent) (may : MayCheckpoint past before image number pieces) (new : Past) where
    only_stands : OnlyLeaves (HoldsEither before may.next) past new → OnlyLeaves (StandsFor before image number) past new
    only_stands only = only_less (λ file. HoldsEither before may.next file) (λ file. StandsFor before image number file) past new (either_stands before may.next image number may.holds) only

  -- where there is no root
  pub begins : (before : Option Extent) (may : MayCheckpoint past before image number pieces)
      → None ≡ root_before (reads past OfExtent) before → MayBegin past may.next pieces
  begins None may e = may_begin past may.next pieces may.stands may.planned may.durable
  begins (Some extent) may e = none_some (selected (reads past OfExtent)) e

  pub first_stands : (new : Past) (before : Option Extent) (may : MayCheckpoint past before image number pieces)
      → None ≡ root_before (reads past OfExtent) before
      → OnlyLeaves (HoldsEither None may.next) past new → OnlyLeaves (StandsFor before image number) past new
  first_stands new None may e only = only_stands None may new only
  first_stands new (Some extent) may e only = none_some (selected (reads past OfExtent)) e

  pub first_switched : (new : Past) (before : Option Extent) (may : MayCheckpoint past before image number pieces)
      → None ≡ root_before (reads past OfExtent) before → SwitchesFrom None past new → SwitchesFrom before past new
  first_switched new None may e is = is
  first_switched new (Some extent) may e is = none_some (selected (reads past OfExtent)) e

  -- where there is one
  module _ (page : ℕ) where
    pub renews : (before : Option Extent) (may : MayCheckpoint past before image number pieces)
        → Some page ≡ root_before (reads past OfExtent) before
        → (extent : Extent) × (before ≡ Some extent) × MayRenew past extent may.next (3 - page) pieces
    renews None may e = none_some page (sym e)
    renews (Some extent) may e =
        let same = some_is page (selected (reads past OfExtent)) e in (
          extent,
          refl,
          subst (λ (p : ℕ). MayRenew past extent may.next (other_page p) pieces) (sym same)
              (may_renew past extent may.next pieces may.stands may.planned.0 may.planned.1 may.planned.2 may.durable),
        )

    pub later_stands : (new : Past) (before : Option Extent) (may : MayCheckpoint past before image number pieces)
        → Some page ≡ root_before (reads past OfExtent) before
        → ((extent : Extent) → MayRenew past extent may.next (3 - page) pieces → OnlyLeaves (HoldsEither (Some extent) may.next) past new) → OnlyLeaves (StandsFor before image number) past new
    later_stands new before may e only =
        let r = renews before may e in
        only_stands before may new (subst (λ (b : Option Extent). OnlyLeaves (HoldsEither b may.next) past new) (sym r.1) (only r.0 r.2))

    pub later_switched : (new : Past) (before : Option Extent) (may : MayCheckpoint past before image number pieces)
        → Some page ≡ root_before (reads past OfExtent) before
        → ((extent : Extent) → MayRenew past extent may.next (3 - page) pieces → SwitchesFrom (Some extent) past new) → SwitchesFrom before past new
    later_switched new before may e is =
        let r = renews before may e in subst (λ (b : Option Extent). SwitchesFrom b past new) (sym r.1) (is r.0 r.2)

-- Drafts that are given their pages, one after the other.
use Rattle.std.proofs.Common.{◌≡◌, ℕ, ◌+◌, ◌<◌, List, [], ◌∷◌, ◌++◌, length, map, drop, refl, sym, ap, subst, ◌∙◌, append_assoc, append-nil, length-append, arith}
use Rattle.std.proofs.lemmas.List.{map-append, length-drop}
use Rattle.gem_object.specs.declared.object.Object.{Object}
use Rattle.gem_image.specs.Image.{Image}
use Rattle.disk_pieces.specs.Pieces.{Piece}
use Rattle.extent_pages.specs.Pages.{payload_size}
use Rattle.extent_pages.specs.Spelled.{spelled_leaf}
use Rattle.extent_pages.specs.Extent.{Leaf}
use Rattle.extent_plan.specs.declared.place.LeafPlace.{LeafPlace}
use Rattle.extent_plan.specs.declared.draft.Draft.{Draft}
use Rattle.extent_plan.specs.declared.draft.Draft.TheVariants.{Shared, Fresh}
use Rattle.extent_plan.specs.declared.fresh.FreshLeaf.{FreshLeaf}
use Rattle.extent_plan.specs.Runs.{behind, IsRun}
use Rattle.extent_plan.specs.Pieces.{chain_pieces, Fills, pages_filled}
use Rattle.extent_plan.specs.Leaves.{leaf_objects}
use Rattle.extent_plan.specs.Plan.{IsPlace, ArePlaces, IsFresh, RenewsTo}
use Rattle.extent_plan.specs.Drafts.{unplaced, DraftsTo}
use Rattle.extent_plan.specs.Laying.{draft_pages, pages_of_drafts, LaysOne, unpaged, LaidTo, AreLaid}
use Rattle.std.proofs.lemmas.List.Sums.{sum_by-cons}
use Rattle.extent_plan.proofs.Renewing.{renews_none, renews_fresh, renews_shared}

-- ---- as many pages as a payload fills

pub fills_pages : (pages payload : List ℕ) → 0 < length payload → length pages ≡ pages_filled (length payload) → Fills pages payload
fills_pages [] payload some many = omega (arith, some, many)
fills_pages (page ∷ []) payload some many = (some, omega (arith, many))
fills_pages (page ∷ next ∷ pages) payload some many =
    let long : payload_size < length payload = omega (arith, many) in
    let left = length-drop payload_size payload in
    (long, fills_pages (next ∷ pages) (drop payload_size payload) (omega (arith, left, long)) (omega (arith, left, long, many)))

-- ---- runs in two parts

pub run_front : (kept : List ℕ) (from : ℕ) (pages rest : List ℕ) → IsRun kept from (pages ++ rest)
    → IsRun kept from pages × IsRun kept (behind from pages) rest
run_front kept from [] rest run = (tt, run)
run_front kept from (page ∷ pages) rest run =
    let more = run_front kept (page + 1) pages rest run.4 in
    ((run.0, run.1, run.2, run.3, more.0), more.1)

-- ---- places

pub places_more : (places : List LeafPlace) (leaves : List Leaf) (place : LeafPlace) (leaf : Leaf) → ArePlaces places leaves
    → IsPlace place leaf → ArePlaces (places ++ place ∷ []) (leaves ++ leaf ∷ [])
places_more [] [] place leaf are is = (is, tt)
places_more [] (first ∷ leaves) place leaf are is = absurd are
places_more (first ∷ places) [] place leaf are is = absurd are
places_more (first ∷ places) (one ∷ leaves) place leaf are is = (are.0, places_more places leaves place leaf are.1 is)

module _ (image : Image) (kept : List ℕ) (old : List Leaf) (from : ℕ) (made left : List Leaf) where
  pub lay_start : (drafts : List Draft) (free : List ℕ) → DraftsTo image old drafts made left → IsRun kept from free
      → LaidTo image kept old from drafts free [] [] made left
  lay_start drafts free to run = record {
    leaves = [];
    old_left = old;
    made_left = made;
    next = from;
    renews = renews_none kept old from;
    to = to;
    run = run;
    same = refl;
    are = tt;
  }

  same_more : (leaves made_left more : List Leaf) (one other : Leaf) → made_left ≡ other ∷ more → unpaged one ≡ unpaged other
      → map unpaged leaves ++ map unpaged made_left ≡ map unpaged made
      → map unpaged (leaves ++ one ∷ []) ++ map unpaged more ≡ map unpaged made
  same_more leaves made_left more one other parts is same =
      ap (λ (l : List (ℕ × List (ℕ × Object))). l ++ map unpaged more) (map-append unpaged leaves (one ∷ []))
      ∙ append_assoc (map unpaged leaves) (unpaged one ∷ []) (map unpaged more)
      ∙ ap (λ (u : ℕ × List (ℕ × Object)). map unpaged leaves ++ u ∷ map unpaged more) is
      ∙ ap (λ (l : List Leaf). map unpaged leaves ++ map unpaged l) (sym parts) ∙ same

  lay_shared : (stays : LeafPlace) (drafts : List Draft) (free rest : List ℕ) (pieces new : List Piece) (places : List LeafPlace) (place : LeafPlace)
      → LaysOne (Shared stays) free rest pieces new place
      → LaidTo image kept old from (Shared stays ∷ drafts) free pieces places made left
      → LaidTo image kept old from drafts rest new (places ++ place ∷ []) made left
  lay_shared stays drafts free rest pieces new places place lays done =
      let t = done.to in
      record {
        leaves = done.leaves ++ t.0 ∷ [];
        old_left = t.4.1;
        made_left = t.1;
        next = done.next;
        renews = subst (λ (p : List Piece). RenewsTo kept old from (done.leaves ++ t.0 ∷ []) p t.4.1 done.next) (sym lays.2)
            (renews_shared kept old from done.leaves pieces done.old_left done.next t.4.0 t.0 t.4.1 t.4.2 done.renews);
        to = t.4.3;
        run = subst (IsRun kept done.next) (sym lays.1) done.run;
        same = same_more done.leaves done.made_left t.1 t.0 t.0 t.2 refl done.same;
        are = places_more places done.leaves place t.0 done.are (subst (λ p. IsPlace p t.0) (sym lays.0) t.3);
      }

  lay_fresh : (fresh : FreshLeaf) (drafts : List Draft) (free rest : List ℕ) (pieces new : List Piece) (places : List LeafPlace) (place : LeafPlace)
      → LaysOne (Fresh fresh) free rest pieces new place
      → LaidTo image kept old from (Fresh fresh ∷ drafts) free pieces places made left
      → LaidTo image kept old from drafts rest new (places ++ place ∷ []) made left
  lay_fresh fresh drafts free rest pieces new places place lays done =
      let t = done.to in
      let pages = place.pages.items in
      let objects = leaf_objects image fresh.number in
      let leaf : Leaf = record { number = fresh.number; pages = pages; objects = objects } in
      let run = run_front kept done.next pages rest (subst (IsRun kept done.next) (sym lays.pages) done.run) in
      let some : 0 < length fresh.payload.items = subst (λ (l : List ℕ). 0 < length l) (sym t.2.payload) (omega arith) in
      let fills : Fills pages (spelled_leaf objects) = subst (Fills pages) t.2.payload (fills_pages pages fresh.payload.items some lays.many) in
      let is : IsFresh kept done.next leaf = record { run = run.0; fills = fills; are = t.2.are } in
      let pieces_are : new ≡ pieces ++ chain_pieces pages (spelled_leaf objects) =
      lays.pieces ∙ ap (λ (l : List ℕ). pieces ++ chain_pieces pages l) t.2.payload in
      record {
        leaves = done.leaves ++ leaf ∷ [];
        old_left = done.old_left;
        made_left = t.0;
        next = behind done.next pages;
        renews = subst (λ (p : List Piece). RenewsTo kept old from (done.leaves ++ leaf ∷ []) p done.old_left (behind done.next pages)) (sym pieces_are)
            (renews_fresh kept old from done.leaves pieces done.old_left done.next leaf is done.renews);
        to = t.3;
        run = run.1;
        same = same_more done.leaves done.made_left t.0 leaf (unplaced image fresh.number) t.1 refl done.same;
        are = places_more places done.leaves place leaf done.are (record {
          number = lays.number;
          pages = refl;
          count = lays.count ∙ t.2.count;
          serial = lays.serial ∙ t.2.serial;
        });
      }

  pub lay_one : (draft : Draft) (drafts : List Draft) (free rest : List ℕ) (pieces new : List Piece) (places : List LeafPlace) (place : LeafPlace)
      → LaysOne draft free rest pieces new place
      → LaidTo image kept old from (draft ∷ drafts) free pieces places made left
      → LaidTo image kept old from drafts rest new (places ++ place ∷ []) made left
  lay_one (Shared stays) drafts free rest pieces new places place lays done =
      lay_shared stays drafts free rest pieces new places place lays done
  lay_one (Fresh fresh) drafts free rest pieces new places place lays done =
      lay_fresh fresh drafts free rest pieces new places place lays done

  pub lay_end : (rest : List ℕ) (pieces : List Piece) (places : List LeafPlace) → LaidTo image kept old from [] rest pieces places made left
      → AreLaid kept old from pieces places made
  lay_end rest pieces places done = record {
    leaves = done.leaves;
    left = done.old_left;
    next = done.next;
    renews = done.renews;
    same = sym (append-nil (map unpaged done.leaves))
        ∙ ap (λ (l : List Leaf). map unpaged done.leaves ++ map unpaged l) (sym done.to.0) ∙ done.same;
    are = done.are;
  }

-- ---- the loop

pub lay_first : (draft : Draft) (drafts : List Draft) → pages_of_drafts (draft ∷ drafts) ≡ draft_pages draft + pages_of_drafts drafts
lay_first draft drafts = sum_by-cons draft_pages draft drafts

pub lay_room : (draft : Draft) (free rest : List ℕ) (old new : List Piece) (place : LeafPlace) → LaysOne draft free rest old new place
    → length free ≡ draft_pages draft + length rest
lay_room (Shared kept) free rest old new place lays = omega (arith, ap length lays.1)
lay_room (Fresh fresh) free rest old new place lays =
    omega (arith, lays.many, sym (ap length lays.pages), length-append place.pages.items rest)

pub lay_step : (image : Image) (kept : List ℕ) (old : List Leaf) (from : ℕ) (made left : List Leaf) (draft : Draft) (drafts all : List Draft)
    (free rest : List ℕ) (pieces new : List Piece) (places more : List LeafPlace) (place : LeafPlace) → all ≡ draft ∷ drafts
    → more ≡ places ++ place ∷ [] → LaysOne draft free rest pieces new place
    → LaidTo image kept old from all free pieces places made left → LaidTo image kept old from drafts rest new more made left
lay_step image kept old from made left draft drafts all free rest pieces new places more place parts more_is lays done =
    subst (λ p. LaidTo image kept old from drafts rest new p made left) (sym more_is)
    (lay_one image kept old from made left draft drafts free rest pieces new places place lays
    (subst (λ d. LaidTo image kept old from d free pieces places made left) parts done))

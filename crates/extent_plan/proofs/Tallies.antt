-- How many pages drafts take, leaf by leaf.
use Rattle.std.proofs.Common.{◌≡◌, ℕ, ◌+◌, ◌^◌, ◌<◌, ◌≤◌, Bool, true, false, cond, not, ◌&&◌, List, [], ◌∷◌, ◌++◌, length, refl, sym, ap, ◌∙◌, length-append, arith}
use Rattle.std.proofs.lemmas.List.Sums.{sum_by-cons, sum_by-append}
use Rattle.gem_image.specs.Image.{Image, AreNamed}
use Rattle.extent_pages.specs.Spelled.{spelled_leaf}
use Rattle.extent_plan.specs.declared.place.LeafPlace.{LeafPlace}
use Rattle.extent_plan.specs.declared.draft.Draft.{Draft}
use Rattle.extent_plan.specs.declared.draft.Draft.TheVariants.{Shared, Fresh}
use Rattle.extent_plan.specs.Pieces.{pages_filled}
use Rattle.extent_plan.specs.Leaves.{leaf_objects, is_changed}
use Rattle.extent_plan.specs.Laying.{draft_pages, pages_of_drafts}
use Rattle.extent_plan.specs.Needed.{sum_below, has_leaf, stays, pages_written, one_leaf, leaves_in, numbers_at, AreToWrite}
use Rattle.extent_plan.proofs.Needs.{sum_more, sum_over, no_leaf}
use Rattle.extent_plan.proofs.Merging.{StaysHere, SpelledHere, Merged, Comes, merge_start, stays_next, spelled_next, none_more}

module _ (image : Image) (since : ℕ) (kept changed : List ℕ) where
  -- the leaves below a number are drafted, on so many pages
  pub record Counted (places : List LeafPlace) (left : List ℕ) (drafts : List Draft) : Type 0 where
    pub next : ℕ
    pub merged : Merged kept changed places left next
    pub count : length drafts ≡ sum_below next (one_leaf image)
    pub pages : pages_of_drafts drafts ≡ sum_below next (pages_written image since kept)

  not_written : (leaf : ℕ) → has_leaf image leaf ≡ false → (one_leaf image leaf ≡ 0) × (pages_written image since kept leaf ≡ 0)
  not_written leaf none = (
    ap (λ b. cond b 1 0) none,
    ap (λ b. cond (b && not (stays image since kept leaf)) (pages_filled (length (spelled_leaf (leaf_objects image leaf)))) 0) none,
  )

  written_by : (leaf : ℕ) (b : Bool) → has_leaf image leaf ≡ true → stays image since kept leaf ≡ b
      → pages_written image since kept leaf ≡ cond (not b) (pages_filled (length (spelled_leaf (leaf_objects image leaf)))) 0
  written_by leaf b there is =
      ap (λ d. cond (d && not (stays image since kept leaf)) (pages_filled (length (spelled_leaf (leaf_objects image leaf)))) 0) there
      ∙ ap (λ d. cond (not d) (pages_filled (length (spelled_leaf (leaf_objects image leaf)))) 0) is

  -- a leaf more, which takes so many pages
  step : (places rest : List LeafPlace) (left behind : List ℕ) (drafts : List Draft) (draft : Draft) (new : List Draft) (leaf : ℕ)
      → (done : Counted places left drafts) → Comes kept changed image rest behind done.next leaf
      → new ≡ drafts ++ draft ∷ [] → draft_pages draft ≡ pages_written image since kept leaf → Counted rest behind new
  step places rest left behind drafts draft new leaf done comes new_is takes =
      let clear : (k : ℕ) → done.next ≤ k → k < leaf → has_leaf image k ≡ false =
      λ k low high. no_leaf image k (λ name own. comes.none name (omega (arith, own, low)) (omega (arith, own, high))) in
      let ones = sum_over (one_leaf image) done.next leaf comes.least (λ k low high. (not_written k (clear k low high)).0) in
      let pages = sum_over (pages_written image since kept) done.next leaf comes.least (λ k low high. (not_written k (clear k low high)).1) in
      let one : one_leaf image leaf ≡ 1 = ap (λ b. cond b 1 0) comes.there in
      record {
        next = leaf + 1;
        merged = comes.merged;
        count = omega (arith, ap length new_is, length-append drafts (draft ∷ []), done.count, ones, sum_more (one_leaf image) leaf, one);
        pages = ap pages_of_drafts new_is ∙ sum_by-append draft_pages drafts (draft ∷ [])
            ∙ omega (arith, sum_by-cons draft_pages draft [], done.pages, pages, sum_more (pages_written image since kept) leaf, takes);
      }

  module _ (named : AreNamed image) (are : AreToWrite image since kept changed) where
    pub counted_start : (places : List LeafPlace) → numbers_at places ≡ kept → Counted places changed []
    unfolding sum_below
    counted_start places is = record {
      next = 0;
      merged = merge_start kept changed image since named are places is;
      count = refl;
      pages = refl;
    }

    pub counted_kept : (places rest : List LeafPlace) (left : List ℕ) (drafts new : List Draft) → Counted places left drafts
        → StaysHere places rest left drafts new → Counted rest left new
    counted_kept places rest left drafts new done s =
        let leaf : ℕ = s.place.number in
        let next = stays_next kept changed image since named are places rest left drafts new done.next done.merged s in
        let stay : stays image since kept leaf ≡ true = ap (λ b. b && not (is_changed image since leaf)) next.1 ∙ ap not next.2 in
        step places rest left left drafts (Shared s.keeps.copy) new leaf done next.0 s.keeps.drafts (sym (written_by leaf true next.0.there stay))

    pub counted_spelled : (places rest : List LeafPlace) (left behind : List ℕ) (drafts new : List Draft) → Counted places left drafts
        → SpelledHere image places rest left behind drafts new → Counted rest behind new
    counted_spelled places rest left behind drafts new done w =
        let next = spelled_next kept changed image since named are places rest left behind drafts new done.next done.merged w in
        let s = w.spells in
        let objects = leaf_objects image w.leaf in
        let payload : s.fresh.payload.items ≡ spelled_leaf objects = s.is.payload
        ∙ ap (λ (n : ℕ). n ∷ s.gathered.items.items) s.are.count ∙ ap (λ (l : List ℕ). length objects ∷ l) s.are.items in
        step places rest left behind drafts (Fresh s.fresh) new w.leaf done next.0 s.drafts
        (ap (λ (l : List ℕ). pages_filled (length l)) payload ∙ sym (written_by w.leaf false next.0.there next.1))

    pub counted_end : (places : List LeafPlace) (left : List ℕ) (drafts : List Draft) → Counted places left drafts → places ≡ [] → left ≡ []
        → (length drafts ≡ leaves_in image) × (pages_of_drafts drafts ≡ sum_below (2 ^ 42) (pages_written image since kept))
    counted_end places left drafts done no_place no_leaf =
        let clear = none_more kept changed image since named are places left done.next done.merged no_place no_leaf in
        let few = done.merged.few in (
          done.count ∙ sym (sum_over (one_leaf image) done.next (2 ^ 42) few (λ k low high. (not_written k (clear k low)).0)),
          done.pages
              ∙ sym (sum_over (pages_written image since kept) done.next (2 ^ 42) few (λ k low high. (not_written k (clear k low)).1)),
        )

-- The pages of an image, counted leaf by leaf.
use Rattle.std.proofs.Common.{◌≡◌, ◌⊎◌, inl, inr, ℕ, suc, ◌+◌, ◌*◌, ◌/◌, ◌^◌, ◌<◌, ◌≤◌, nat_lt, Bool, true, false, cond, not, ◌&&◌, ◌||◌, List, [], ◌∷◌, ◌++◌, length, Option, Some, None, refl, sym, ap, ap₂, subst, ◌∙◌, append-nil, length-append, arith}
use Rattle.std.specs.List.{flat_map}
use Rattle.std.specs.FinMap.{get, entries}
use Rattle.std.proofs.lemmas.Bool.Decides.{nat_tests}
use Rattle.gem_object.specs.declared.object.Object.{Object}
use Rattle.gem_image.specs.Image.{Image, AreNamed}
use Rattle.gem_record.specs.Stored.{chain_pages, pages_over, image_pages}
use Rattle.body_codec.specs.Spelled.{spelled_changed}
use Rattle.extent_pages.specs.Pages.{is_one_of}
use Rattle.extent_pages.specs.Contents.{leaf_size}
use Rattle.extent_pages.specs.Spelled.{spelled_leaf}
use Rattle.extent_plan.specs.Pieces.{pages_filled}
use Rattle.extent_plan.specs.Leaves.{plain, stored_at, name_in, objects_before, later_before, leaf_objects, is_later, is_changed}
use Rattle.extent_plan.specs.Needed.{sum_below, has_leaf, one_leaf, leaves_in, counts_changed, pages_written as pages_of_leaf, checkpoint_pages}
use Rattle.extent_plan.specs.Used.{Collected}
use Rattle.extent_plan.proofs.Needs.{sum_more, sum_over, no_leaf}
use Rattle.extent_plan.proofs.Counts.{bytes_before, has_is_one, first_counted, directory_same, later_total}
use Rattle.extent_plan.proofs.Changed.{none_counts}
use Rattle.extent_plan.proofs.Marking.{or_none, collect_none, collect_take, collect_over, ascend_low}
use Rattle.stone_store.specs.declared.count.Measured.{Measured}
use Rattle.stone_store.specs.declared.count.Sums.{Sums}
use Rattle.stone_store.specs.declared.count.PageCounts.{PageCounts}
use Rattle.stone_store.specs.declared.parts.Root.{Root}
use Rattle.stone_store.specs.Counted.{size_at, leaf_pages, stale_over, leaf_if, AddsLeaf, leaves_with, stale_pages, AreCountedBelow, AreCounted, AreListed, pages_written, since_root, pages_by, pages_for}

module _ (image : Image) (root : Option ℕ) (leaf : ℕ) where
  -- ---- a leaf, name by name

  abbrev pub size_in : ℕ → ℕ
  size_in place = size_at (name_in leaf place) (get image (name_in leaf place))

  -- whether something at its first so many names counts as changed
  abbrev stale_before : Option ℕ → ℕ → Bool
  stale_before None place = nat_lt 0 (length (objects_before image leaf place))
  stale_before (Some since) place = later_before image since leaf place

  -- its first so many names were measured
  pub record IsMeasured (place : ℕ) (measured : Measured) : Type 0 where
    pub size : measured.size ≡ 1 + sum_below place size_in
    pub stale : measured.stale ≡ stale_before root place

  none_stale : (r : Option ℕ) → false ≡ stale_before r 0
  unfolding later_before objects_before
  none_stale None = refl
  none_stale (Some since) = refl

  one_more_there : (o : Option Object) (name : ℕ) (front : List (ℕ × Object))
      → (nat_lt 0 (length front) || stale_over None o) ≡ nat_lt 0 (length (front ++ stored_at name o))
  one_more_there None name front =
      or_none (nat_lt 0 (length front)) ∙ ap (λ (l : List (ℕ × Object)). nat_lt 0 (length l)) (sym (append-nil front))
  one_more_there (Some object) name front =
      or_true (nat_lt 0 (length front)) ∙ sym (some (length (front ++ (name, plain object) ∷ [])) (length-append front ((name, plain object) ∷ [])))
    where
      or_true : (b : Bool) → (b || true) ≡ true
      or_true true = refl
      or_true false = refl

      some : (n : ℕ) → n ≡ length front + 1 → nat_lt 0 n ≡ true
      some n is = grind (arith, nat_tests, is)

  one_more_stale : (r : Option ℕ) (place : ℕ)
      → (stale_before r place || stale_over r (get image (name_in leaf place))) ≡ stale_before r (suc place)
  unfolding later_before objects_before
  one_more_stale None place = one_more_there (get image (name_in leaf place)) (name_in leaf place) (objects_before image leaf place)
  one_more_stale (Some since) place = ap (λ b. later_before image since leaf place || b) (by (get image (name_in leaf place))) where
    by : (o : Option Object) → stale_over (Some since) o ≡ is_later since o
    by None = refl
    by (Some object) = refl

  pub measure_start : (measured : Measured) → measured.size ≡ 1 → measured.stale ≡ false → IsMeasured 0 measured
  unfolding sum_below
  measure_start measured size stale = record { size = size; stale = stale ∙ none_stale root }

  pub measure_next : (place : ℕ) (old new : Measured) → IsMeasured place old → new.size ≡ old.size + size_in place
      → new.stale ≡ (old.stale || stale_over root (get image (name_in leaf place))) → IsMeasured (suc place) new
  unfolding sum_below
  measure_next place old new is size stale = record {
    size = omega (arith, size, is.size);
    stale = stale ∙ ap (λ b. b || stale_over root (get image (name_in leaf place))) is.stale ∙ one_more_stale root place;
  }

  pub measure_end : (measured : Measured) → IsMeasured leaf_size measured
      → measured.size ≡ length (spelled_leaf (leaf_objects image leaf))
  measure_end measured is =
      let bytes : length (flat_map spelled_changed (objects_before image leaf leaf_size)) ≡ sum_below leaf_size size_in =
      bytes_before image leaf leaf_size in
      is.size ∙ ap (λ (n : ℕ). 1 + n) (sym bytes)
      ∙ one_more (length (flat_map spelled_changed (objects_before image leaf leaf_size)))
    where
      one_more : (n : ℕ) → 1 + n ≡ suc n
      one_more n = omega arith

  pub stale_end : (measured : Measured) → IsMeasured leaf_size measured → measured.stale ≡ counts_changed root image leaf
  stale_end measured is = is.stale ∙ by root where
    by : (r : Option ℕ) → stale_before r leaf_size ≡ counts_changed r image leaf
    by None = refl
    by (Some since) = refl

  -- ---- its pages

  not_written : (since : ℕ) (kept : List ℕ) → has_leaf image leaf ≡ false → pages_of_leaf image since kept leaf ≡ 0
  not_written since kept none =
      ap (λ b. cond (b && not (is_one_of leaf kept && not (is_changed image since leaf))) (leaf_pages image leaf) 0) none

  none_written : (r : Option ℕ) → has_leaf image leaf ≡ false → stale_pages r image leaf ≡ 0
  none_written None none = not_written 0 [] none
  none_written (Some since) none = not_written since (leaves_with image) none

  all_written : has_leaf image leaf ≡ true → pages_of_leaf image 0 [] leaf ≡ leaf_pages image leaf
  all_written there =
      ap (λ b. cond (b && not (false && not (is_changed image 0 leaf))) (leaf_pages image leaf) 0) there

  stale_written : (r : Option ℕ) → has_leaf image leaf ≡ true
      → stale_pages r image leaf ≡ cond (counts_changed r image leaf) (leaf_pages image leaf) 0
  stale_written None there = all_written there ∙ sym (ap (λ b. cond b (leaf_pages image leaf) 0) there)
  stale_written (Some since) there =
      ap (λ b. cond (b && not (is_one_of leaf (leaves_with image) && not (is_changed image since leaf))) (leaf_pages image leaf) 0) there
      ∙ ap (λ b. cond (not (b && not (is_changed image since leaf))) (leaf_pages image leaf) 0) (sym (has_is_one image leaf) ∙ there)
      ∙ by (is_changed image since leaf)
    where
      by : (b : Bool) → cond (not (not b)) (leaf_pages image leaf) 0 ≡ cond b (leaf_pages image leaf) 0
      by true = refl
      by false = refl

-- ---- leaves

module _ (image : Image) (root : Option ℕ) where
  pub counted_none : (sums : Sums) → sums.leaves ≡ 0 → sums.all ≡ 0 → sums.stale ≡ 0 → AreCountedBelow image root 0 sums []
  unfolding sum_below
  counted_none sums leaves all stale = record {
    few = omega (arith, leaves);
    leaves = leaves;
    all = all;
    stale = stale;
    listed = collect_none 0 (counts_changed root image);
  }

  clear_below : (next high : ℕ) (none : (name : ℕ) → next ≤ name / leaf_size → name / leaf_size < high → get image name ≡ None)
      → (k : ℕ) → next ≤ k → k < high → has_leaf image k ≡ false
  clear_below next high none k low less =
      no_leaf image k (λ name own. none name (omega (arith, own, low)) (omega (arith, own, less)))

  -- no leaf up to this one
  pub counted_over : (sums : Sums) (changed : List ℕ) (next high : ℕ) → next ≤ high
      → ((name : ℕ) → next ≤ name / leaf_size → name / leaf_size < high → get image name ≡ None)
      → AreCountedBelow image root next sums changed → AreCountedBelow image root high sums changed
  counted_over sums changed next high least none is =
      let clear = clear_below next high none in
      let ones = sum_over (one_leaf image) next high least (λ k low less. ap (λ b. cond b 1 0) (clear k low less)) in
      let all = sum_over (pages_of_leaf image 0 []) next high least (λ k low less. not_written image root k 0 [] (clear k low less)) in
      let stale = sum_over (stale_pages root image) next high least (λ k low less. none_written image root k root (clear k low less)) in
      record {
        few = omega (arith, is.few, least);
        leaves = is.leaves ∙ sym ones;
        all = is.all ∙ sym all;
        stale = is.stale ∙ sym stale;
        listed = collect_over 0 (counts_changed root image) changed next high least is.listed
            (λ k low less. none_counts root image k (clear k low less));
      }

  -- and then it
  pub counted_next : (old new : Sums) (before after : List ℕ) (leaf : ℕ) → has_leaf image leaf ≡ true
      → AddsLeaf image root leaf old new before after
      → AreCountedBelow image root leaf old before → AreCountedBelow image root (leaf + 1) new after
  counted_next old new before after leaf there adds is =
      let one : one_leaf image leaf ≡ 1 = ap (λ b. cond b 1 0) there in
      record {
        few = omega (arith, adds.leaves, is.few);
        leaves = omega (arith, adds.leaves, is.leaves, one, sum_more (one_leaf image) leaf);
        all = omega (arith, adds.all, is.all, all_written image root leaf there, sum_more (pages_of_leaf image 0 []) leaf);
        stale = omega (
          arith,
          adds.stale,
          is.stale,
          stale_written image root leaf root there,
          sum_more (stale_pages root image) leaf,
        );
        listed = subst (λ (l : List ℕ). Collected 0 (counts_changed root image) l (leaf + 1)) (sym adds.listed)
            (by (counts_changed root image leaf) refl);
      }
    where
      by : (b : Bool) → counts_changed root image leaf ≡ b → Collected 0 (counts_changed root image) (before ++ leaf_if b leaf) (leaf + 1)
      by true has = collect_take 0 (counts_changed root image) before leaf (omega arith) is.listed has
      by false none = subst (λ (l : List ℕ). Collected 0 (counts_changed root image) l (leaf + 1)) (sym (append-nil before))
          (collect_over 0 (counts_changed root image) before leaf (leaf + 1) (omega arith) is.listed
          (λ other least below. let same : other ≡ leaf = omega (arith, least, below) in ap (counts_changed root image) same ∙ none))

  -- ---- all of them

  module _ (named : AreNamed image) (sums : Sums) (changed : List ℕ) (is : AreCounted image root sums changed) where
    pub all_listed : AreListed root image changed
    all_listed = record {
      are = record { ascend = is.listed.ascend; are = λ leaf. by leaf (split leaf (2 ^ 42)) };
      low = ascend_low 0 (2 ^ 42) changed is.listed.ascend is.listed.last;
    } where
      split : (a b : ℕ) → (a < b) ⊎ (b ≤ a)
      split a b = search arith

      by : (leaf : ℕ) → (leaf < 2 ^ 42) ⊎ (2 ^ 42 ≤ leaf) → is_one_of leaf changed ≡ counts_changed root image leaf
      by leaf (inl low) = is.listed.are leaf (omega arith) low
      by leaf (inr high) = is.listed.high leaf high
          ∙ sym (none_counts root image leaf (no_leaf image leaf (λ name own. named name (omega (arith, own, high)))))

    module _ (directory : ℕ) (pages : directory ≡ chain_pages (12 * sums.leaves + 4)) where
      directory_is : directory ≡ pages_filled (4 + 12 * leaves_in image)
      directory_is = pages ∙ ap chain_pages (bytes sums.leaves (leaves_in image) is.leaves) where
        bytes : (a b : ℕ) → a ≡ b → 12 * a + 4 ≡ 4 + 12 * b
        bytes a b e = omega (arith, e)

      pub all_pages : sums.all + directory ≡ image_pages image
      all_pages = total (first_counted image named 0) where
        total : checkpoint_pages image 0 [] [] ≡ pages_over None (entries image) → sums.all + directory ≡ image_pages image
        total e = omega (arith, e, is.all, directory_is)

      pub all_stale : sums.stale + directory ≡ pages_written root image
      all_stale = by root is.stale where
        by : (r : Option ℕ) → sums.stale ≡ sum_below (2 ^ 42) (stale_pages r image) → sums.stale + directory ≡ pages_written r image
        by None stale = total (first_counted image named 0) where
          total : checkpoint_pages image 0 [] [] ≡ pages_over None (entries image) → sums.stale + directory ≡ pages_written None image
          total e = omega (arith, e, stale, directory_is)
        by (Some since) stale =
            let written = later_total image named since (leaves_with image) (λ leaf has unchanged. sym (has_is_one image leaf) ∙ has) in
            ap₂ (λ (a b : ℕ). a + b) (stale ∙ sym written) (directory_is ∙ sym (directory_same image named))

-- ---- checkpoints

pub pages_are : (image : Image) (root : Option Root) (counts : PageCounts) → counts.written ≡ pages_written (since_root root) image
    → pages_by counts root ≡ pages_for image root
pages_are image None counts written = omega (arith, written)
pages_are image (Some root) counts written = ap (λ (n : ℕ). 3 + (root.pages + n)) written

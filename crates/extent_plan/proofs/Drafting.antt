-- Leaves drafted one after the other.
use Rattle.std.proofs.Common.{◌≡◌, ℕ, ◌+◌, ◌^◌, ◌<◌, ◌≤◌, ◌==◌, Bool, true, false, cond, List, [], ◌∷◌, ◌++◌, length, refl, sym, ap, subst, ◌∙◌, append_assoc, arith}
use Rattle.std.specs.List.{AllByRecursion}
use Rattle.std.specs.List.Sorted.{IsStrictlySortedBy}
use Rattle.std.specs.Ordering.{nat_cmp}
use Rattle.std.proofs.lemmas.Bool.Decides.{nat_tests}
use Rattle.std.proofs.lemmas.List.{map-append}
use Rattle.gem_image.specs.Image.{Image, AreNamed, AreSpelled}
use Rattle.extent_pages.specs.Spelled.{spelled_leaf}
use Rattle.extent_pages.specs.Extent.{Leaf, largest_serial}
use Rattle.extent_pages.specs.Stored.{AreOfLeaf}
use Rattle.extent_plan.specs.declared.place.LeafPlace.{LeafPlace}
use Rattle.extent_plan.specs.declared.draft.Draft.{Draft}
use Rattle.extent_plan.specs.declared.draft.Draft.TheVariants.{Shared, Fresh}
use Rattle.extent_plan.specs.declared.fresh.FreshLeaf.{FreshLeaf}
use Rattle.extent_plan.specs.Leaves.{leaf_objects, is_changed, Holds}
use Rattle.extent_plan.specs.Plan.{IsPlace, SamePlace, ArePlaces}
use Rattle.extent_plan.specs.Needed.{has_leaf, numbers_at, AreToWrite}
use Rattle.extent_plan.specs.Drafts.{unplaced, IsSpelledLeaf, DraftsTo, AgreesBelow, places_behind, IsSharable, Sharing, numbers_of, objects_in_all, Drafted}
use Rattle.extent_plan.proofs.Agrees.{holds_own, agrees_none, agrees_more, agrees_all, objects_more}
use Rattle.extent_plan.proofs.Stored.{all_both, all_less, sorted_push, sorted_none, are_own}
use Rattle.extent_plan.proofs.Merging.{StaysHere, SpelledHere, Merged, Comes, merge_start, stays_next, spelled_next, nothing_more}

some_objects : (image : Image) (leaf : ℕ) → has_leaf image leaf ≡ true → 0 < length (leaf_objects image leaf)
some_objects image leaf there = grind (arith, nat_tests, there)

one_of_all : {X : Type 0} (P : X → Type 0) (before : List X) (x : X) (after : List X) → AllByRecursion P (before ++ x ∷ after) → P x
one_of_all P [] x after all = all.0
one_of_all P (y ∷ before) x after all = one_of_all P before x after all.1

module _ (image : Image) where
  -- ---- one draft more

  -- some of the old leaves that are left are passed over
  pub drafts_pass : (old : List Leaf) (drafts : List Draft) (made left before rest : List Leaf) → left ≡ before ++ rest
      → DraftsTo image old drafts made left → DraftsTo image old drafts made rest
  drafts_pass old [] made left before rest e to =
      (to.0, (to.1.0 ++ before, to.1.1 ∙ ap (λ (l : List Leaf). to.1.0 ++ l) e ∙ sym (append_assoc to.1.0 before rest)))
  drafts_pass old (Shared place ∷ drafts) made left before rest e to =
      (to.0, to.1, to.2, to.3, (to.4.0, to.4.1, to.4.2, drafts_pass to.4.1 drafts to.1 left before rest e to.4.3))
  drafts_pass old (Fresh fresh ∷ drafts) made left before rest e to =
      (to.0, to.1, to.2, drafts_pass old drafts to.0 left before rest e to.3)

  pub drafts_shared : (old : List Leaf) (drafts : List Draft) (made left before : List Leaf) (leaf : Leaf) (after : List Leaf)
      (place : LeafPlace) → left ≡ before ++ leaf ∷ after → IsPlace place leaf → DraftsTo image old drafts made left
      → DraftsTo image old (drafts ++ Shared place ∷ []) (made ++ leaf ∷ []) after
  drafts_shared old [] made left before leaf after place e is to = (
    leaf,
    [],
    ap (λ (m : List Leaf). m ++ leaf ∷ []) to.0,
    is,
    (
      to.1.0 ++ before,
      after,
      to.1.1 ∙ ap (λ (l : List Leaf). to.1.0 ++ l) e ∙ sym (append_assoc to.1.0 before (leaf ∷ after)),
      (refl, ([], refl)),
    ),
  )
  drafts_shared old (Shared first ∷ drafts) made left before leaf after place e is to = (
    to.0,
    to.1 ++ leaf ∷ [],
    ap (λ (m : List Leaf). m ++ leaf ∷ []) to.2,
    to.3,
    (to.4.0, to.4.1, to.4.2, drafts_shared to.4.1 drafts to.1 left before leaf after place e is to.4.3),
  )
  drafts_shared old (Fresh first ∷ drafts) made left before leaf after place e is to = (
    to.0 ++ leaf ∷ [],
    ap (λ (m : List Leaf). m ++ leaf ∷ []) to.1,
    to.2,
    drafts_shared old drafts to.0 left before leaf after place e is to.3,
  )

  pub drafts_fresh : (old : List Leaf) (drafts : List Draft) (made left : List Leaf) (fresh : FreshLeaf)
      → IsSpelledLeaf image fresh → DraftsTo image old drafts made left
      → DraftsTo image old (drafts ++ Fresh fresh ∷ []) (made ++ unplaced image fresh.number ∷ []) left
  drafts_fresh old [] made left fresh is to =
      ([], ap (λ (m : List Leaf). m ++ unplaced image fresh.number ∷ []) to.0, is, (refl, to.1))
  drafts_fresh old (Shared first ∷ drafts) made left fresh is to = (
    to.0,
    to.1 ++ unplaced image fresh.number ∷ [],
    ap (λ (m : List Leaf). m ++ unplaced image fresh.number ∷ []) to.2,
    to.3,
    (to.4.0, to.4.1, to.4.2, drafts_fresh to.4.1 drafts to.1 left fresh is to.4.3),
  )
  drafts_fresh old (Fresh first ∷ drafts) made left fresh is to = (
    to.0 ++ unplaced image fresh.number ∷ [],
    ap (λ (m : List Leaf). m ++ unplaced image fresh.number ∷ []) to.1,
    to.2,
    drafts_fresh old drafts to.0 left fresh is to.3,
  )

  -- what is left are the last of the old leaves
  pub drafts_left : (old : List Leaf) (drafts : List Draft) (made left : List Leaf) → DraftsTo image old drafts made left
      → (before : List Leaf) × (old ≡ before ++ left)
  drafts_left old [] made left to = to.1
  drafts_left old (Shared place ∷ drafts) made left to =
      let rest = drafts_left to.4.1 drafts to.1 left to.4.3 in
      (to.4.0 ++ to.0 ∷ rest.0, to.4.2 ∙ ap (λ (l : List Leaf). to.4.0 ++ to.0 ∷ l) rest.1 ∙ sym (append_assoc to.4.0 (to.0 ∷ rest.0) left))
  drafts_left old (Fresh fresh ∷ drafts) made left to = drafts_left old drafts to.0 left to.3

  -- ---- places

  -- the leaves that are left behind the places of one leaf
  record Left (rest : List LeafPlace) (leaves : List Leaf) : Type 0 where
    front : List Leaf
    back : List Leaf
    whole : leaves ≡ front ++ back
    backs : ArePlaces rest back

  left_behind : (leaf : ℕ) (places : List LeafPlace) (leaves : List Leaf) → ArePlaces places leaves → Left (places_behind leaf places) leaves
  left_behind leaf [] leaves are = record { front = []; back = leaves; whole = refl; backs = are }
  left_behind leaf (place ∷ places) [] are = absurd are
  left_behind leaf (place ∷ places) (first ∷ leaves) are = by (place.number == leaf) where
    by : (b : Bool) → Left (cond b places (place ∷ places)) (first ∷ leaves)
    by true = record { front = first ∷ []; back = leaves; whole = refl; backs = are.1 }
    by false = record { front = []; back = first ∷ leaves; whole = refl; backs = are }

  record First (place : LeafPlace) (rest : List LeafPlace) (leaves : List Leaf) : Type 0 where
    leaf : Leaf
    others : List Leaf
    whole : leaves ≡ leaf ∷ others
    is : IsPlace place leaf
    are : ArePlaces rest others

  first_place : (place : LeafPlace) (rest : List LeafPlace) (leaves : List Leaf) → ArePlaces (place ∷ rest) leaves → First place rest leaves
  first_place place rest [] are = absurd are
  first_place place rest (leaf ∷ leaves) are =
      record { leaf = leaf; others = leaves; whole = refl; is = are.0; are = are.1 }

  same_place : (place copy : LeafPlace) (leaf : Leaf) → SamePlace place copy → IsPlace place leaf → IsPlace copy leaf
  same_place place copy leaf same is = record {
    number = same.number ∙ is.number;
    pages = same.pages ∙ is.pages;
    count = same.count ∙ is.count;
    serial = same.serial ∙ is.serial;
  }

  -- ---- the loop

  module _ (kept changed : List ℕ) (old : List Leaf) where
    -- the leaves below a number are drafted
    pub record Drafting (places : List LeafPlace) (left : List ℕ) (drafts : List Draft) : Type 0 where
      pub next : ℕ
      pub merged : Merged kept changed places left next
      pub made : List Leaf
      pub old_left : List Leaf
      pub to : DraftsTo image old drafts made old_left
      pub places_are : ArePlaces places old_left
      pub agrees : AgreesBelow image next (objects_in_all made)
      pub ascend : IsStrictlySortedBy nat_cmp (numbers_of made)
      pub below : AllByRecursion (λ number. number < next) (numbers_of made)
      pub small : AllByRecursion (λ number. number < 2 ^ 42) (numbers_of made)
      pub each : AllByRecursion (λ (leaf : Leaf). AreOfLeaf leaf.number leaf.objects) made

    -- one leaf more, as it was made
    leaf_more : (places rest : List LeafPlace) (left behind : List ℕ) (drafts new : List Draft) (leaf : Leaf) (old_left : List Leaf)
        → (done : Drafting places left drafts) → Comes kept changed image rest behind done.next leaf.number
        → Holds image leaf → AreOfLeaf leaf.number leaf.objects
        → DraftsTo image old new (done.made ++ leaf ∷ []) old_left → ArePlaces rest old_left
        → Drafting rest behind new
    leaf_more places rest left behind drafts new leaf old_left done comes holds are to rest_are =
        let next = done.next in
        let least = comes.least in
        record {
          next = leaf.number + 1;
          merged = comes.merged;
          made = done.made ++ leaf ∷ [];
          old_left = old_left;
          to = to;
          places_are = rest_are;
          agrees = subst (AgreesBelow image (leaf.number + 1)) (sym (objects_more image done.made leaf))
              (agrees_more image next (objects_in_all done.made) leaf done.agrees least comes.none holds);
          ascend = subst (IsStrictlySortedBy nat_cmp) (numbers done.made) (sorted_push (numbers_of done.made) leaf.number done.ascend
              (all_less (λ n. n < next) (λ n. n < leaf.number) (λ (n : ℕ) (b : n < next). omega (arith, b, least)) (numbers_of done.made) done.below));
          below = subst (AllByRecursion (λ n. n < leaf.number + 1)) (numbers done.made) (all_both (λ n. n < leaf.number + 1) (numbers_of done.made) (leaf.number ∷ [])
              (all_less (λ n. n < next) (λ n. n < leaf.number + 1) (λ (n : ℕ) (b : n < next). omega (arith, b, least)) (numbers_of done.made) done.below)
              (omega arith, tt));
          small = subst (AllByRecursion (λ n. n < 2 ^ 42)) (numbers done.made)
              (all_both (λ n. n < 2 ^ 42) (numbers_of done.made) (leaf.number ∷ []) done.small (comes.low, tt));
          each = all_both (λ (l : Leaf). AreOfLeaf l.number l.objects) done.made (leaf ∷ []) done.each (are, tt);
        }
      where
        numbers : (made : List Leaf) → numbers_of made ++ leaf.number ∷ [] ≡ numbers_of (made ++ leaf ∷ [])
        numbers made = sym (map-append (λ (l : Leaf). l.number) made (leaf ∷ []))

    module _ (since : ℕ) (named : AreNamed image) (are : AreToWrite image since kept changed) where
      pub draft_start : (places : List LeafPlace) → numbers_at places ≡ kept → ArePlaces places old → Drafting places changed []
      draft_start places is places_are = record {
        next = 0;
        merged = merge_start kept changed image since named are places is;
        made = [];
        old_left = old;
        to = (refl, ([], refl));
        places_are = places_are;
        agrees = agrees_none image;
        ascend = sorted_none;
        below = tt;
        small = tt;
        each = tt;
      }

      module _ (sharing : Sharing image since old) (spelled : AreSpelled image) where
        pub kept_more : (places rest : List LeafPlace) (left : List ℕ) (drafts new : List Draft) → Drafting places left drafts
            → StaysHere places rest left drafts new → Drafting rest left new
        kept_more places rest left drafts new done stays =
            let next = stays_next kept changed image since named are places rest left drafts new done.next done.merged stays in
            let first = first_place stays.place rest done.old_left (subst (λ l. ArePlaces l done.old_left) stays.places_are done.places_are) in
            let is = same_place stays.place stays.keeps.copy first.leaf stays.keeps.same first.is in
            let number : stays.place.number ≡ first.leaf.number = first.is.number in
            let front = drafts_left old drafts done.made done.old_left done.to in
            let whole : old ≡ front.0 ++ first.leaf ∷ first.others =
            front.1 ∙ ap (λ (l : List Leaf). front.0 ++ l) first.whole in
            let sharable = one_of_all (IsSharable image since) front.0 first.leaf first.others
            (subst (AllByRecursion (IsSharable image since)) whole sharing) in
            let to : DraftsTo image old new (done.made ++ first.leaf ∷ []) first.others =
            subst (λ d. DraftsTo image old d (done.made ++ first.leaf ∷ []) first.others) (sym stays.keeps.drafts)
            (drafts_shared old drafts done.made done.old_left [] first.leaf first.others stays.keeps.copy first.whole is done.to) in
            leaf_more places rest left left drafts new first.leaf first.others done
            (subst (λ (n : ℕ). Comes kept changed image rest left done.next n) number next.0)
            (sharable.holds (subst (λ (n : ℕ). is_changed image since n ≡ false) number next.2))
            sharable.are to first.are

        pub spelled_more : (places rest : List LeafPlace) (left behind : List ℕ) (drafts new : List Draft) → Drafting places left drafts
            → SpelledHere image places rest left behind drafts new → Drafting rest behind new
        spelled_more places rest left behind drafts new done w =
            let next = spelled_next kept changed image since named are places rest left behind drafts new done.next done.merged w in
            let s = w.spells in
            let parts = left_behind w.leaf places done.old_left done.places_are in
            let objects = leaf_objects image w.leaf in
            let own = are_own image spelled w.leaf next.0.low (some_objects image w.leaf next.0.there) in
            let same : leaf_objects image s.fresh.number ≡ objects = ap (leaf_objects image) s.is.number in
            let payload : s.fresh.payload.items ≡ spelled_leaf objects = s.is.payload
            ∙ ap (λ (n : ℕ). n ∷ s.gathered.items.items) s.are.count ∙ ap (λ (l : List ℕ). length objects ∷ l) s.are.items in
            let spelled_so : IsSpelledLeaf image s.fresh = record {
              payload = payload ∙ ap spelled_leaf (sym same);
              count = s.is.count ∙ s.are.count ∙ ap length (sym same);
              serial = s.is.serial ∙ s.are.serial ∙ ap largest_serial (sym same);
              are = subst (λ (n : ℕ). AreOfLeaf n (leaf_objects image n)) (sym s.is.number) own;
            } in
            let to : DraftsTo image old new (done.made ++ unplaced image w.leaf ∷ []) parts.back =
            subst (λ d. DraftsTo image old d (done.made ++ unplaced image w.leaf ∷ []) parts.back) (sym s.drafts)
            (subst (λ (n : ℕ). DraftsTo image old (drafts ++ Fresh s.fresh ∷ []) (done.made ++ unplaced image n ∷ []) parts.back) s.is.number
            (drafts_fresh old drafts done.made parts.back s.fresh spelled_so
            (drafts_pass old drafts done.made done.old_left parts.front parts.back parts.whole done.to))) in
            leaf_more places rest left behind drafts new (unplaced image w.leaf) parts.back done next.0
            (holds_own image w.leaf) own to
            (subst (λ (l : List LeafPlace). ArePlaces l parts.back) (sym w.rest_is) parts.backs)

      -- the image has nothing from here on
      pub draft_end : (places : List LeafPlace) (left : List ℕ) (drafts : List Draft) → Drafting places left drafts
          → places ≡ [] → left ≡ [] → Drafted image old drafts
      draft_end places left drafts done no_place no_leaf = record {
        made = done.made;
        left = done.old_left;
        to = done.to;
        agrees = agrees_all image done.next (objects_in_all done.made) done.agrees
            (nothing_more kept changed image since named are places left done.next done.merged no_place no_leaf);
        ascend = done.ascend;
        small = done.small;
        each = done.each;
      }

-- ---- what is left

-- behind a leaf there are no more places
pub no_longer : (leaf : ℕ) (places : List LeafPlace) → length (places_behind leaf places) ≤ length places
no_longer leaf [] = omega arith
no_longer leaf (place ∷ places) = by (place.number == leaf) where
  by : (b : Bool) → length (cond b places (place ∷ places)) ≤ length (place ∷ places)
  by true = omega arith
  by false = omega arith

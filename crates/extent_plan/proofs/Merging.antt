-- The places of a root and the leaves that are to be written, gone through in the order of their numbers.
use Rattle.std.proofs.Common.{◌≡◌, ◌⊎◌, inl, inr, ℕ, ◌+◌, ◌/◌, ◌^◌, ◌<◌, ◌≤◌, ◌==◌, Bool, true, false, cond, not, ◌&&◌, ◌||◌, List, [], ◌∷◌, Option, None, Some, refl, sym, ap, subst, ◌∙◌, arith}
use Rattle.std.specs.FinMap.{get}
use Rattle.std.proofs.lemmas.Bool.{false≢true, eq-eqb}
use Rattle.std.proofs.lemmas.Bool.Decides.{nat_tests}
use Rattle.gem_object.specs.declared.object.Object.{Object}
use Rattle.gem_image.specs.Image.{Image, AreNamed}
use Rattle.extent_pages.specs.Pages.{is_one_of}
use Rattle.extent_pages.specs.Contents.{leaf_size}
use Rattle.extent_plan.specs.declared.place.LeafPlace.{LeafPlace}
use Rattle.extent_plan.specs.declared.draft.Draft.{Draft}
use Rattle.extent_plan.specs.Runs.{AscendFrom}
use Rattle.extent_plan.specs.Leaves.{is_changed}
use Rattle.extent_plan.specs.Needed.{has_leaf, stays, is_written, numbers_at, AreToWrite}
use Rattle.extent_plan.specs.Drafts.{comes_before, NoneBefore, places_behind, KeepsPlace, SpellsLeaf}
use Rattle.extent_plan.proofs.Runs.{not_same, none_from}
use Rattle.extent_plan.proofs.Needs.{no_leaf, leaf_there}

-- ---- leaves that an image has and hasn't

pub no_object : (image : Image) (leaf name : ℕ) → has_leaf image leaf ≡ false → name / leaf_size ≡ leaf → get image name ≡ None
no_object image leaf name none own = by (get image name) refl where
  by : (o : Option Object) → get image name ≡ o → get image name ≡ None
  by None is = is
  by (Some object) is = absurd (false≢true (sym none ∙ leaf_there image name leaf object is (sym own)))

-- the number of a leaf with an object
pub leaf_low : (image : Image) (leaf : ℕ) → AreNamed image → has_leaf image leaf ≡ true → leaf < 2 ^ 42
leaf_low image leaf named there = by (split leaf (2 ^ 42)) where
  split : (a b : ℕ) → (a < b) ⊎ (b ≤ a)
  split a b = search arith

  by : (leaf < 2 ^ 42) ⊎ (2 ^ 42 ≤ leaf) → leaf < 2 ^ 42
  by (inl low) = low
  by (inr high) = absurd (false≢true (sym (no_leaf image leaf (λ name own. named name (omega (arith, own, high)))) ∙ there))

-- ---- what a leaf is, by whether the image has it, whether the root has it, and whether it was changed

neither_has : (has held changed : Bool) → held ≡ false → (has && not (held && not changed)) ≡ false → has ≡ false
neither_has true false changed none left = absurd (false≢true (sym left))
neither_has false held changed none left = refl
neither_has true true changed none left = absurd (false≢true (sym none))

not_changed : (has held changed : Bool) → has ≡ true → held ≡ true → (has && not (held && not changed)) ≡ false → changed ≡ false
not_changed true true true there own left = absurd (false≢true (sym left))
not_changed true true false there own left = refl
not_changed true false changed there own left = absurd (false≢true own)
not_changed false held changed there own left = absurd (false≢true there)

has_it : (has stay : Bool) → (has && not stay) ≡ true → (has ≡ true) × (stay ≡ false)
has_it true true is = absurd (false≢true is)
has_it true false is = (refl, refl)
has_it false stay is = absurd (false≢true is)

-- ---- numbers in order

-- leaves behind one that comes before them
above : (leaf from : ℕ) (numbers : List ℕ) → comes_before leaf numbers ≡ true → AscendFrom from numbers → AscendFrom (leaf + 1) numbers
above leaf from [] before ascend = tt
above leaf from (first ∷ numbers) before ascend =
    let less : leaf < first = grind (arith, nat_tests, before) in
    (omega (arith, less), ascend.1)

-- places of which none comes before the first of these leaves
places_from : (leaf from : ℕ) (left : List ℕ) (places : List LeafPlace) → NoneBefore places (leaf ∷ left) → AscendFrom from (numbers_at places)
    → AscendFrom leaf (numbers_at places)
places_from leaf from left [] none ascend = tt
places_from leaf from left (place ∷ places) none ascend =
    let least : leaf ≤ place.number = grind (arith, nat_tests, none) in
    (least, ascend.1)

-- and those behind that leaf's own
record Behind (leaf : ℕ) (places rest : List LeafPlace) : Type 0 where
  ascend : AscendFrom (leaf + 1) (numbers_at rest)
  same : (other : ℕ) → leaf + 1 ≤ other → is_one_of other (numbers_at rest) ≡ is_one_of other (numbers_at places)

one_passed : (other first : ℕ) (numbers : List ℕ) → first < other → is_one_of other numbers ≡ is_one_of other (first ∷ numbers)
one_passed other first numbers less = sym (ap (λ b. b || is_one_of other numbers) (not_same other first (λ e. omega (arith, e, less))))

rest_behind : (leaf : ℕ) (places : List LeafPlace) → AscendFrom leaf (numbers_at places) → Behind leaf places (places_behind leaf places)
rest_behind leaf [] ascend = record { ascend = tt; same = λ other least. refl }
rest_behind leaf (place ∷ places) ascend = by (place.number == leaf) refl where
  by : (b : Bool) → (place.number == leaf) ≡ b → Behind leaf (place ∷ places) (cond b places (place ∷ places))
  by true is =
      let own : place.number ≡ leaf = grind (arith, nat_tests, is) in
      record {
        ascend = subst (λ (n : ℕ). AscendFrom (n + 1) (numbers_at places)) own ascend.1;
        same = λ other least. one_passed other place.number (numbers_at places) (omega (arith, own, least));
      }
  by false is =
      let more : leaf < place.number = grind (arith, nat_tests, is, ascend.0) in
      record { ascend = (omega (arith, more), ascend.1); same = λ other least. refl }

-- ---- steps

-- The first of the places that are left comes before the leaves that are to be written, and stays.
pub record StaysHere (places rest : List LeafPlace) (left : List ℕ) (old new : List Draft) : Type 0 where
  pub place : LeafPlace
  pub places_are : places ≡ place ∷ rest
  pub before : comes_before place.number left ≡ true
  pub keeps : KeepsPlace place old new

-- The first of the leaves that are to be written comes before the places that are left, or is that of the first of them.
pub record SpelledHere (image : Image) (places rest : List LeafPlace) (left behind : List ℕ) (old new : List Draft) : Type 0 where
  pub leaf : ℕ
  pub left_is : left ≡ leaf ∷ behind
  pub first : NoneBefore places left
  pub rest_is : rest ≡ places_behind leaf places
  pub spells : SpellsLeaf image leaf old new

-- nothing of both is left
pub all_passed : (places : List LeafPlace) (left : List ℕ) → left ≡ [] → NoneBefore places left → places ≡ []
all_passed [] left none first = refl
all_passed (place ∷ places) left none first =
    absurd (false≢true (sym first ∙ ap (comes_before place.number) none))

-- ---- both lists

module _ (kept changed : List ℕ) where
  -- The leaves below a number are passed, in both lists; what is left are those from it on.
  pub record Merged (places : List LeafPlace) (left : List ℕ) (next : ℕ) : Type 0 where
    pub few : next ≤ 2 ^ 42
    pub places_ascend : AscendFrom next (numbers_at places)
    pub ascend : AscendFrom next left
    pub held : (leaf : ℕ) → next ≤ leaf → is_one_of leaf (numbers_at places) ≡ is_one_of leaf kept
    pub same : (leaf : ℕ) → next ≤ leaf → is_one_of leaf left ≡ is_one_of leaf changed

  -- the next leaf of the image is this one, and these are left behind it
  pub record Comes (image : Image) (places : List LeafPlace) (left : List ℕ) (next leaf : ℕ) : Type 0 where
    pub least : next ≤ leaf
    pub low : leaf < 2 ^ 42
    pub none : (name : ℕ) → next ≤ name / leaf_size → name / leaf_size < leaf → get image name ≡ None
    pub there : has_leaf image leaf ≡ true
    pub merged : Merged places left (leaf + 1)

  module _ (image : Image) (since : ℕ) (named : AreNamed image) (are : AreToWrite image since kept changed) where
    pub merge_start : (places : List LeafPlace) → numbers_at places ≡ kept → Merged places changed 0
    merge_start places is = record {
      few = omega arith;
      places_ascend = subst (AscendFrom 0) (sym is) are.root_ascends;
      ascend = are.ascend;
      held = λ leaf least. ap (is_one_of leaf) is;
      same = λ leaf least. refl;
    }

    -- where both begin at a leaf or behind it, the image has none before
    clear : (places : List LeafPlace) (left : List ℕ) (next leaf : ℕ) → Merged places left next → AscendFrom leaf (numbers_at places)
        → AscendFrom leaf left → (other : ℕ) → next ≤ other → other < leaf → has_leaf image other ≡ false
    clear places left next leaf done places_up up other least less =
        let no_place : is_one_of other kept ≡ false = sym (done.held other least) ∙ none_from other leaf (numbers_at places) less places_up in
        let not_left : is_written image since kept other ≡ false =
        sym (are.are other) ∙ sym (done.same other least) ∙ none_from other leaf left less up in
        neither_has (has_leaf image other) (is_one_of other kept) (is_changed image since other) no_place not_left

    comes : (places rest : List LeafPlace) (left behind : List ℕ) (next leaf : ℕ) → Merged places left next → next ≤ leaf
        → has_leaf image leaf ≡ true → AscendFrom leaf (numbers_at places) → AscendFrom leaf left
        → AscendFrom (leaf + 1) (numbers_at rest) → AscendFrom (leaf + 1) behind
        → ((other : ℕ) → leaf + 1 ≤ other → is_one_of other (numbers_at rest) ≡ is_one_of other (numbers_at places))
        → ((other : ℕ) → leaf + 1 ≤ other → is_one_of other behind ≡ is_one_of other left)
        → Comes image rest behind next leaf
    comes places rest left behind next leaf done least there places_up up rest_up behind_up held same =
        let low = leaf_low image leaf named there in
        record {
          least = least;
          low = low;
          none = λ name from to. no_object image (name / leaf_size) name
              (clear places left next leaf done places_up up (name / leaf_size) from to) refl;
          there = there;
          merged = record {
            few = omega (arith, low);
            places_ascend = rest_up;
            ascend = behind_up;
            held = λ other more. held other more ∙ done.held other (omega (arith, more, least));
            same = λ other more. same other more ∙ done.same other (omega (arith, more, least));
          };
        }

    -- the first place stays
    pub stays_next : (places rest : List LeafPlace) (left : List ℕ) (old new : List Draft) (next : ℕ) → Merged places left next
        → (s : StaysHere places rest left old new)
        → Comes image rest left next s.place.number × (is_one_of s.place.number kept ≡ true) × (is_changed image since s.place.number ≡ false)
    stays_next places rest left old new next done s =
        let leaf : ℕ = s.place.number in
        let up = subst (λ (l : List LeafPlace). AscendFrom next (numbers_at l)) s.places_are done.places_ascend in
        let least : next ≤ leaf = up.0 in
        let left_up = above leaf next left s.before done.ascend in
        let own : is_one_of leaf kept ≡ true = sym (done.held leaf least)
        ∙ ap (λ (l : List LeafPlace). is_one_of leaf (numbers_at l)) s.places_are
        ∙ ap (λ b. b || is_one_of leaf (numbers_at rest)) (eq-eqb leaf leaf refl) in
        let not_left : is_written image since kept leaf ≡ false =
        sym (are.are leaf) ∙ sym (done.same leaf least) ∙ none_from leaf (leaf + 1) left (omega arith) left_up in
        let there = are.held leaf own in (
          comes places rest left left next leaf done least there
              (subst (λ (l : List LeafPlace). AscendFrom leaf (numbers_at l)) (sym s.places_are) (omega arith, up.1))
              (from_above leaf left left_up) up.1 left_up
              (λ other more. one_passed other leaf (numbers_at rest) (omega (arith, more))
              ∙ ap (λ (l : List LeafPlace). is_one_of other (numbers_at l)) (sym s.places_are))
              (λ other more. refl),
          own,
          not_changed (has_leaf image leaf) (is_one_of leaf kept) (is_changed image since leaf) there own not_left,
        )
      where
        from_above : (leaf : ℕ) (numbers : List ℕ) → AscendFrom (leaf + 1) numbers → AscendFrom leaf numbers
        from_above leaf [] ascend = tt
        from_above leaf (first ∷ numbers) ascend = (omega (arith, ascend.0), ascend.1)

    -- the first of the leaves that are to be written is spelled anew
    pub spelled_next : (places rest : List LeafPlace) (left behind : List ℕ) (old new : List Draft) (next : ℕ) → Merged places left next
        → (w : SpelledHere image places rest left behind old new)
        → Comes image rest behind next w.leaf × (stays image since kept w.leaf ≡ false)
    spelled_next places rest left behind old new next done w =
        let leaf : ℕ = w.leaf in
        let up = subst (AscendFrom next) w.left_is done.ascend in
        let least : next ≤ leaf = up.0 in
        let one : is_one_of leaf left ≡ true = ap (is_one_of leaf) w.left_is
        ∙ ap (λ b. b || is_one_of leaf behind) (eq-eqb leaf leaf refl) in
        let written : is_written image since kept leaf ≡ true = sym (are.are leaf) ∙ sym (done.same leaf least) ∙ one in
        let parts = has_it (has_leaf image leaf) (stays image since kept leaf) written in
        let places_up = places_from leaf next behind places (subst (NoneBefore places) w.left_is w.first) done.places_ascend in
        let rest_is = subst (Behind leaf places) (sym w.rest_is) (rest_behind leaf places places_up) in (
          comes places rest left behind next leaf done least parts.0 places_up
              (subst (AscendFrom leaf) (sym w.left_is) (omega arith, up.1)) rest_is.ascend up.1 rest_is.same
              (λ other more. one_passed other leaf behind (omega (arith, more)) ∙ ap (is_one_of other) (sym w.left_is)),
          parts.1,
        )

    -- where both have ended the image has nothing from here on
    pub none_more : (places : List LeafPlace) (left : List ℕ) (next : ℕ) → Merged places left next → places ≡ [] → left ≡ []
        → (leaf : ℕ) → next ≤ leaf → has_leaf image leaf ≡ false
    none_more places left next done no_place no_left leaf least =
        clear places left next (leaf + 1) done (subst (λ (l : List LeafPlace). AscendFrom (leaf + 1) (numbers_at l)) (sym no_place) tt)
        (subst (AscendFrom (leaf + 1)) (sym no_left) tt) leaf least (omega arith)

    pub nothing_more : (places : List LeafPlace) (left : List ℕ) (next : ℕ) → Merged places left next → places ≡ [] → left ≡ []
        → (name : ℕ) → next ≤ name / leaf_size → get image name ≡ None
    nothing_more places left next done no_place no_left name least =
        no_object image (name / leaf_size) name (none_more places left next done no_place no_left (name / leaf_size) least) refl

-- The leaves that count as changed are those that are written.
use Rattle.std.proofs.Common.{◌≡◌, ◌≢◌, ℕ, ◌+◌, ◌/◌, ◌<◌, ◌≤◌, eqb, Bool, true, false, not, ◌&&◌, ◌||◌, List, [], ◌∷◌, ◌++◌, length, Option, None, Some, is_some, refl, sym, ap, subst, ◌∙◌, arith}
use Rattle.std.specs.List.{AllByRecursion}
use Rattle.std.specs.List.Sorted.{IsStrictlySortedBy}
use Rattle.std.specs.Ordering.{nat_cmp}
use Rattle.std.specs.declared.cmp.Ordering.TheVariants.{Less}
use Rattle.std.specs.FinMap.{get, find, from_entries, get-from_entries}
use Rattle.std.proofs.lemmas.Bool.{false≢true, eq-eqb}
use Rattle.std.proofs.lemmas.Bool.Decides.{nat_tests}
use Rattle.std.proofs.lemmas.Cmp.{nat_cmp_total, ranked}
use Rattle.std.proofs.lemmas.List.Elements.{recursion_from_All}
use Rattle.gem_object.specs.declared.object.Object.{Object}
use Rattle.gem_image.specs.Image.{Image}
use Rattle.extent_pages.specs.Pages.{is_one_of}
use Rattle.extent_pages.specs.Contents.{leaf_size}
use Rattle.extent_pages.specs.Extent.{Leaf}
use Rattle.extent_pages.specs.Stored.{IsOfLeaf, IsStoredLeaf, AreStored}
use Rattle.extent_plan.specs.declared.place.LeafPlace.{LeafPlace}
use Rattle.extent_plan.specs.Runs.{AscendFrom}
use Rattle.extent_plan.specs.Leaves.{name_in, is_later, is_changed}
use Rattle.extent_plan.specs.Plan.{ArePlaces}
use Rattle.extent_plan.specs.Drafts.{numbers_of, objects_in_all}
use Rattle.extent_plan.specs.Needed.{has_leaf, is_written, numbers_at, counts_changed, AreChanged, AreToWrite}
use Rattle.extent_plan.specs.Shared.{KeepsHeld}
use Rattle.extent_plan.proofs.Stored.{all_less}
use Rattle.extent_plan.proofs.Agrees.{find_behind}
use Rattle.extent_plan.proofs.Needs.{leaf_there}
use Rattle.extent_plan.proofs.Merging.{no_object}
use Rattle.extent_plan.proofs.Sharing.{none_of}
use Rattle.extent_plan.proofs.Counts.{found_first, later_none, numbers_placed, leaf_held}

-- ---- leaves that an image hasn't

-- they weren't changed
none_changed : (image : Image) (since leaf : ℕ) → has_leaf image leaf ≡ false → is_changed image since leaf ≡ false
none_changed image since leaf none =
    later_none image since leaf leaf_size
    (λ place low. ap (is_later since) (no_object image leaf (name_in leaf place) none (omega (arith, low))))

pub none_counts : (root : Option ℕ) (image : Image) (leaf : ℕ) → has_leaf image leaf ≡ false → counts_changed root image leaf ≡ false
none_counts None image leaf none = none
none_counts (Some since) image leaf none = none_changed image since leaf none

has_changed : (image : Image) (since leaf : ℕ) → is_changed image since leaf ≡ true → has_leaf image leaf ≡ true
has_changed image since leaf changed = by (has_leaf image leaf) refl where
  by : (b : Bool) → has_leaf image leaf ≡ b → b ≡ true
  by true is = refl
  by false is = absurd (false≢true (sym (none_changed image since leaf is) ∙ changed))

-- ---- without a root

pub first_written : (image : Image) (since : ℕ) (changed : List ℕ) → AreChanged None image changed → AreToWrite image since [] changed
first_written image since changed are = record {
  root_ascends = tt;
  held = λ leaf one. absurd (false≢true one);
  ascend = are.ascend;
  are = λ leaf. are.are leaf ∙ by (has_leaf image leaf);
} where
  by : (has : Bool) → has ≡ (has && true)
  by true = refl
  by false = refl

-- ---- over a root

-- the numbers of stored leaves
pub ascend_numbers : (from : ℕ) (numbers : List ℕ) → AllByRecursion (λ (n : ℕ). from ≤ n) numbers
    → IsStrictlySortedBy nat_cmp numbers → AscendFrom from numbers
unfolding IsStrictlySortedBy
ascend_numbers from [] above sorted = tt
ascend_numbers from (number ∷ numbers) above sorted = (
  above.0,
  ascend_numbers (number + 1) numbers (all_less (λ (n : ℕ). nat_cmp number n ≡ Less) (λ (n : ℕ). number + 1 ≤ n) (λ n less. let low = ranked number n Less (sym less) in omega (arith, low)) numbers sorted.0) sorted.1,
)

pub from_zero : (numbers : List ℕ) → AllByRecursion (λ (n : ℕ). 0 ≤ n) numbers
from_zero [] = tt
from_zero (number ∷ numbers) = (omega arith, from_zero numbers)

-- an object of the leaf of this number
record StandsAmong (leaf : ℕ) (leaves : List Leaf) : Type 0 where
  name : ℕ
  object : Object
  there : find nat_cmp name (objects_in_all leaves) ≡ Some object
  own : name / leaf_size ≡ leaf

first_of : (first : Leaf) (leaves : List Leaf) → IsStoredLeaf first → StandsAmong first.number (first ∷ leaves)
first_of first leaves is =
    let it = by first.objects is.are.some (recursion_from_All (IsOfLeaf first.number) first.objects is.are.each) in
    record { name = it.0; object = it.1; there = it.2; own = it.3 } where
      by : (objects : List (ℕ × Object)) → 0 < length objects → AllByRecursion (IsOfLeaf first.number) objects
          → (name : ℕ) × (object : Object) × (find nat_cmp name (objects ++ objects_in_all leaves) ≡ Some object) × (name / leaf_size ≡ first.number)
      by [] some all = absurd (omega (arith, some))
      by (e ∷ objects) some all = (e.0, e.1, found_first e.0 e (objects ++ objects_in_all leaves) refl, all.0.1)

stands_among : (leaf : ℕ) (leaves : List Leaf) → AllByRecursion IsStoredLeaf leaves → is_one_of leaf (numbers_of leaves) ≡ true
    → StandsAmong leaf leaves
stands_among leaf [] each one = absurd (false≢true one)
stands_among leaf (first ∷ leaves) each one = by (eqb leaf first.number) refl one (stands_among leaf leaves each.1) where
  by : (b : Bool) → eqb leaf first.number ≡ b → (b || is_one_of leaf (numbers_of leaves)) ≡ true
      → (is_one_of leaf (numbers_of leaves) ≡ true → StandsAmong leaf leaves) → StandsAmong leaf (first ∷ leaves)
  by true is one further =
      let same : leaf ≡ first.number = grind (arith, nat_tests, is) in
      subst (λ (n : ℕ). StandsAmong n (first ∷ leaves)) (sym same) (first_of first leaves each.0)
  by false is one further =
      let behind = further one in
      let apart : behind.name / leaf_size ≢ first.number = λ same.
      false≢true (sym is ∙ eq-eqb leaf first.number (sym behind.own ∙ same)) in
      record {
        name = behind.name;
        object = behind.object;
        there = find_behind behind.name first.objects (objects_in_all leaves) (none_of first behind.name each.0 apart) ∙ behind.there;
        own = behind.own;
      }

module _ (image : Image) (since : ℕ) (old : List Leaf) (places : List LeafPlace) (changed : List ℕ) (lie : ArePlaces places old)
    (stored : AreStored old) (keeps : KeepsHeld image (from_entries (objects_in_all old)) since) where
  -- the image has each leaf of the root
  still_there : (leaf : ℕ) → is_one_of leaf (numbers_of old) ≡ true → has_leaf image leaf ≡ true
  still_there leaf one = by (get image at.name) refl where
    at : StandsAmong leaf old
    at = stands_among leaf old stored.each one

    by : (o : Option Object) → get image at.name ≡ o → has_leaf image leaf ≡ true
    by (Some object) is = leaf_there image at.name leaf object is (sym at.own)
    by None is =
        let before = get-from_entries nat_cmp_total (objects_in_all old) at.name ∙ at.there in
        absurd (false≢true (sym (ap is_some is) ∙ keeps.names at.name (ap is_some before)))

  pub later_written : AreChanged (Some since) image changed → AreToWrite image since (numbers_at places) changed
  later_written are =
      let same = numbers_placed places old lie in
      record {
        root_ascends = subst (AscendFrom 0) (sym same) (ascend_numbers 0 (numbers_of old) (from_zero (numbers_of old)) stored.ascend);
        held = λ leaf one. still_there leaf (ap (is_one_of leaf) (sym same) ∙ one);
        ascend = are.ascend;
        are = λ leaf. are.are leaf
            ∙ by (has_leaf image leaf) (is_changed image since leaf) (is_one_of leaf (numbers_of old)) (leaf_held image since old stored keeps leaf) (has_changed image since leaf)
            ∙ ap (λ (l : List ℕ). is_written image since l leaf) (sym same);
      }
    where
      by : (has changed one : Bool) → (has ≡ true → changed ≡ false → one ≡ true) → (changed ≡ true → has ≡ true)
          → changed ≡ (has && not (one && not changed))
      by true true true known there = refl
      by true true false known there = refl
      by true false true known there = refl
      by true false false known there = absurd (false≢true (known refl refl))
      by false true one known there = absurd (false≢true (there refl))
      by false false one known there = refl

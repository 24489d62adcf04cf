-- Objects of an image's leaf can be stored in it.
use Rattle.std.proofs.Common.{◌≡◌, ◌⊎◌, inl, inr, ℕ, zero, suc, ◌^◌, ◌<◌, ◌≤◌, List, [], ◌∷◌, ◌++◌, length, map, Option, None, Some, refl, sym, subst, ◌∙◌, append-nil, length-append, arith}
use Rattle.std.specs.List.{AllByRecursion}
use Rattle.std.specs.List.Sorted.{IsStrictlySortedBy}
use Rattle.std.specs.Ordering.{nat_cmp}
use Rattle.std.specs.Cmp.{nat_cmp_is}
use Rattle.std.specs.declared.cmp.Ordering.TheVariants.{Less}
use Rattle.std.specs.FinMap.{get}
use Rattle.std.proofs.lemmas.List.{map-append}
use Rattle.std.proofs.lemmas.List.Elements.{All-from_recursion}
use Rattle.gem_object.specs.declared.object.Object.{Object}
use Rattle.gem_object.specs.Spelling.{IsSpelled}
use Rattle.gem_image.specs.Image.{Image, AreSpelled}
use Rattle.extent_pages.specs.Contents.{leaf_size}
use Rattle.extent_pages.specs.Stored.{IsOfLeaf, AreOfLeaf}
use Rattle.extent_plan.specs.Leaves.{plain, stored_at, name_in, objects_before, leaf_objects}
use Rattle.extent_plan.proofs.Gathers.{few_before}

-- ---- lists with more behind

pub all_both : {X : Type 0} (P : X → Type 0) (xs ys : List X) → AllByRecursion P xs → AllByRecursion P ys
    → AllByRecursion P (xs ++ ys)
all_both P [] ys all more = more
all_both P (x ∷ xs) ys all more = (all.0, all_both P xs ys all.1 more)

pub all_less : {X : Type 0} (P Q : X → Type 0) → ((x : X) → P x → Q x) → (xs : List X) → AllByRecursion P xs
    → AllByRecursion Q xs
all_less P Q less [] all = tt
all_less P Q less (x ∷ xs) all = (less x all.0, all_less P Q less xs all.1)

pub is_less : (a b : ℕ) → a < b → nat_cmp a b ≡ Less
is_less a b less = sym (nat_cmp_is a b Less less)

-- a number above all of them
pub sorted_push : (xs : List ℕ) (x : ℕ) → IsStrictlySortedBy nat_cmp xs → AllByRecursion (λ y. y < x) xs
    → IsStrictlySortedBy nat_cmp (xs ++ x ∷ [])
unfolding IsStrictlySortedBy
sorted_push [] x sorted below = (tt, tt)
sorted_push (y ∷ ys) x sorted below = (
  all_both (λ z. nat_cmp y z ≡ Less) ys (x ∷ []) sorted.0 (is_less y x below.0, tt),
  sorted_push ys x sorted.1 below.1,
)

pub sorted_none : IsStrictlySortedBy nat_cmp []
unfolding IsStrictlySortedBy
sorted_none = tt

-- ---- an image's leaf

module _ (image : Image) (spelled : AreSpelled image) (leaf : ℕ) (few : leaf < 2 ^ 42) where
  stored_one : (place : ℕ) (o : Option Object) → place < leaf_size → get image (name_in leaf place) ≡ o
      → AllByRecursion (IsOfLeaf leaf) (stored_at (name_in leaf place) o)
  stored_one place None below is = tt
  stored_one place (Some object) below is =
      let known : IsSpelled object = spelled (name_in leaf place) object is in (
        (
          record {
            name = omega (arith, few, below);
            object = record {
              spelled = record { class_name = known.class_name; segment_name = known.segment_name; body = known.body };
              changed = refl;
            };
          },
          omega (arith, below),
        ),
        tt,
      )

  all_stored : (place : ℕ) → place ≤ leaf_size → AllByRecursion (IsOfLeaf leaf) (objects_before image leaf place)
  unfolding objects_before
  all_stored zero most = tt
  all_stored (suc place) most = all_both (IsOfLeaf leaf) (objects_before image leaf place)
      (stored_at (name_in leaf place) (get image (name_in leaf place)))
      (all_stored place (omega (arith, most))) (stored_one place (get image (name_in leaf place)) (omega (arith, most)) refl)

  abbrev names : List (ℕ × Object) → List ℕ
  names objects = map (λ (entry : ℕ × Object). entry.0) objects

  one_below : (place : ℕ) (o : Option Object) → AllByRecursion (λ name. name < name_in leaf (suc place)) (names (stored_at (name_in leaf place) o))
  one_below place None = tt
  one_below place (Some object) = (omega arith, tt)

  all_below : (place : ℕ) → AllByRecursion (λ name. name < name_in leaf place) (names (objects_before image leaf place))
  unfolding objects_before
  all_below zero = tt
  all_below (suc place) =
      let here = stored_at (name_in leaf place) (get image (name_in leaf place)) in
      subst (AllByRecursion (λ name. name < name_in leaf (suc place)))
      (sym (map-append (λ (entry : ℕ × Object). entry.0) (objects_before image leaf place) here))
      (all_both (λ name. name < name_in leaf (suc place)) (names (objects_before image leaf place)) (names here)
      (all_less (λ name. name < name_in leaf place) (λ name. name < name_in leaf (suc place))
      (λ (name : ℕ) (below : name < name_in leaf place). omega (arith, below)) (names (objects_before image leaf place)) (all_below place))
      (one_below place (get image (name_in leaf place))))

  push_names : (objects : List (ℕ × Object)) (place : ℕ) (o : Option Object) → IsStrictlySortedBy nat_cmp (names objects)
      → AllByRecursion (λ name. name < name_in leaf place) (names objects)
      → IsStrictlySortedBy nat_cmp (names (objects ++ stored_at (name_in leaf place) o))
  push_names objects place None sorted below = subst (IsStrictlySortedBy nat_cmp)
      (sym (map-append (λ (entry : ℕ × Object). entry.0) objects []) ∙ refl)
      (subst (IsStrictlySortedBy nat_cmp) (sym (append-nil (names objects))) sorted)
  push_names objects place (Some object) sorted below = subst (IsStrictlySortedBy nat_cmp)
      (sym (map-append (λ (entry : ℕ × Object). entry.0) objects ((name_in leaf place, plain object) ∷ [])))
      (sorted_push (names objects) (name_in leaf place) sorted below)

  all_sorted : (place : ℕ) → IsStrictlySortedBy nat_cmp (names (objects_before image leaf place))
  unfolding objects_before
  all_sorted zero = sorted_none
  all_sorted (suc place) = push_names (objects_before image leaf place) place (get image (name_in leaf place))
      (all_sorted place) (all_below place)

  pub are_own : 0 < length (leaf_objects image leaf) → AreOfLeaf leaf (leaf_objects image leaf)
  are_own some = record {
    some = some;
    count = few_before image leaf leaf_size;
    each = All-from_recursion (IsOfLeaf leaf) (leaf_objects image leaf) (all_stored leaf_size (omega arith));
    ascend = all_sorted leaf_size;
  }

-- ---- an object of the image is one of its leaf's

some_stored : (name : ℕ) (object : Object) (o : Option Object) → o ≡ Some object → 0 < length (stored_at name o)
some_stored name object o is = subst (λ (p : Option Object). 0 < length (stored_at name p)) (sym is) (omega arith)

pub some_own : (image : Image) (leaf place before : ℕ) (object : Object) → place < before
    → get image (name_in leaf place) ≡ Some object → 0 < length (objects_before image leaf before)
unfolding objects_before
some_own image leaf place zero object below is = absurd (omega (arith, below))
some_own image leaf place (suc before) object below is = by (split place before (omega (arith, below))) (some_own image leaf place before object) where
  front : List (ℕ × Object)
  front = objects_before image leaf before

  here : List (ℕ × Object)
  here = stored_at (name_in leaf before) (get image (name_in leaf before))

  split : (a b : ℕ) → a ≤ b → (a < b) ⊎ (a ≡ b)
  split a b most = search arith

  by : (place < before) ⊎ (place ≡ before)
      → (place < before → get image (name_in leaf place) ≡ Some object → 0 < length (objects_before image leaf before))
      → 0 < length (front ++ here)
  by (inl earlier) further = omega (arith, further earlier is, length-append front here)
  by (inr same) further =
      let own : get image (name_in leaf before) ≡ Some object = subst (λ (p : ℕ). get image (name_in leaf p) ≡ Some object) same is in
      omega (arith, some_stored (name_in leaf before) object (get image (name_in leaf before)) own, length-append front here)

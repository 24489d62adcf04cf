-- Objects by their names: what is found in a list of them, in their list by name, and in an image
-- that they were put into.
use Rattle.std.proofs.Common.{◌≡◌, ◌∙◌, refl, sym, ap, subst, ℕ, Bool, true, false, ◌&&◌, T, cond, List, [], ◌∷◌, ◌++◌, length, map, Some, is_some, option_map, ◌⊎◌, inl, inr, Ordering, arith}
use Rattle.std.specs.List.{AllByRecursion}
use Rattle.std.specs.Ordering.{nat_cmp, eq_by_cmp, is_eq, is_lt, ordering_reverse}
use Rattle.std.specs.declared.cmp.Ordering.TheVariants.{Less, Equal, Greater}
use Rattle.std.specs.Cmp.{tied_itself}
use Rattle.std.specs.FinMap.{FinMap, find, get, insert, entries, empty, from_entries, get-entries, get-insert, get-from_entries, entries-insert, entries_sorted, len-entries, len-empty}
use Rattle.std.specs.FinMap.Entries.{put, by_order, below_all, is_sorted}
use Rattle.std.proofs.lemmas.Bool.{false≢true, cases_eq}
use Rattle.std.proofs.lemmas.Cmp.{nat_cmp_total}
use Rattle.std.proofs.lemmas.Map.Lookups.{exact_unsigned}
use Rattle.std.proofs.lemmas.Option.{same_Some}
use Rattle.commit_check.proofs.radix_pages_lemmas.Tables.{get-insert_same, get-insert_other}
use Rattle.commit_check.specs.gem_object.declared.object.Object.{Object}
use Rattle.commit_check.specs.gem_image.Image.{Image, with_objects}
use Rattle.commit_soundness.proofs.Lists.{all_weaker, all_two}

-- ---- lists

parts_of : (a b : Bool) → T (a && b) → T a × T b
parts_of true b both = (tt, both)
parts_of false b both = absurd both

not_tied : (r : Ordering) → T (is_lt r) → is_eq (ordering_reverse r) ≡ false
not_tied Less below = refl
not_tied Equal below = absurd below
not_tied Greater below = absurd below

module _ {X : Type 0} where
  found_first : (entry : ℕ × X) (rest : List (ℕ × X)) → find nat_cmp entry.0 (entry ∷ rest) ≡ Some entry.1
  found_first entry rest = ap (λ r. cond (is_eq r) (Some entry.1) (find nat_cmp entry.0 rest))
      (tied_itself nat_cmp_total entry.0)

  found_past : (name : ℕ) (entry : ℕ × X) (rest : List (ℕ × X)) → is_some (find nat_cmp name rest) ≡ true
      → is_some (find nat_cmp name (entry ∷ rest)) ≡ true
  found_past name entry rest some =
      elim (eq_by_cmp nat_cmp name entry.0) as (λ b. is_some (cond b (Some entry.1) (find nat_cmp name rest)) ≡ true) [
        | true ↦ refl
        | false ↦ some
      ]

  -- each name in a list is found there
  pub listed_found : (es : List (ℕ × X)) → AllByRecursion (λ e. is_some (find nat_cmp e.0 es) ≡ true) es
  listed_found [] = tt
  listed_found (e ∷ es) = (
    ap is_some (found_first e es),
    all_weaker (λ o. is_some (find nat_cmp o.0 es) ≡ true) (λ o. is_some (find nat_cmp o.0 (e ∷ es)) ≡ true)
        (λ o some. found_past o.0 e es some) es (listed_found es),
  )

  pub found_left : (name : ℕ) (xs ys : List (ℕ × X)) → is_some (find nat_cmp name xs) ≡ true
      → is_some (find nat_cmp name (xs ++ ys)) ≡ true
  found_left name [] ys some = absurd (false≢true some)
  found_left name (x ∷ xs) ys some = by (eq_by_cmp nat_cmp name x.0) some (found_left name xs ys)
    where
      by : (b : Bool) → is_some (cond b (Some x.1) (find nat_cmp name xs)) ≡ true
          → (is_some (find nat_cmp name xs) ≡ true → is_some (find nat_cmp name (xs ++ ys)) ≡ true)
          → is_some (cond b (Some x.1) (find nat_cmp name (xs ++ ys))) ≡ true
      by true some rest = refl
      by false some rest = rest some

  pub found_right : (name : ℕ) (xs ys : List (ℕ × X)) → is_some (find nat_cmp name ys) ≡ true
      → is_some (find nat_cmp name (xs ++ ys)) ≡ true
  found_right name [] ys some = some
  found_right name (x ∷ xs) ys some = found_past name x (xs ++ ys) (found_right name xs ys some)

  -- objects that are changed at their names are found there still
  pub found_mapped : {Y : Type 0} (f : ℕ × X → Y) (name : ℕ) (xs : List (ℕ × X))
      → is_some (find nat_cmp name xs) ≡ true → is_some (find nat_cmp name (map (λ x. (x.0, f x)) xs)) ≡ true
  found_mapped f name [] some = absurd (false≢true some)
  found_mapped f name (x ∷ xs) some = by (eq_by_cmp nat_cmp name x.0) some (found_mapped f name xs)
    where
      by : (b : Bool) → is_some (cond b (Some x.1) (find nat_cmp name xs)) ≡ true
          → (is_some (find nat_cmp name xs) ≡ true → is_some (find nat_cmp name (map (λ e. (e.0, f e)) xs)) ≡ true)
          → is_some (cond b (Some (f x)) (find nat_cmp name (map (λ e. (e.0, f e)) xs))) ≡ true
      by true some rest = refl
      by false some rest = rest some

  pub find_mapped : {Y : Type 0} (f : X → Y) (name : ℕ) (xs : List (ℕ × X))
      → find nat_cmp name (map (λ x. (x.0, f x.1)) xs) ≡ option_map f (find nat_cmp name xs)
  find_mapped f name [] = refl
  find_mapped f name (x ∷ xs) =
      elim (eq_by_cmp nat_cmp name x.0) as (λ b. cond b (Some (f x.1)) (find nat_cmp name (map (λ e. (e.0, f e.1)) xs))
      ≡ option_map f (cond b (Some x.1) (find nat_cmp name xs))) [
        | true ↦ refl
        | false ↦ find_mapped f name xs
      ]

  -- ---- lists in the order of names

  apart_from : (name : ℕ) (es : List (ℕ × X)) → T (below_all nat_cmp name es)
      → AllByRecursion (λ e. eq_by_cmp nat_cmp e.0 name ≡ false) es
  apart_from name [] below = tt
  apart_from name (e ∷ es) below =
      let both = parts_of (is_lt (nat_cmp name e.0)) (below_all nat_cmp name es) below in (
        ap is_eq (nat_cmp_total.antisymm e.0 name) ∙ not_tied (nat_cmp name e.0) both.0,
        apart_from name es both.1,
      )

  sorted_found : (es : List (ℕ × X)) → T (is_sorted nat_cmp es)
      → AllByRecursion (λ e. find nat_cmp e.0 es ≡ Some e.1) es
  sorted_found [] sorted = tt
  sorted_found (e ∷ es) sorted =
      let both = parts_of (below_all nat_cmp e.0 es) (is_sorted nat_cmp es) sorted in (
        found_first e es,
        all_weaker (λ o. (eq_by_cmp nat_cmp o.0 e.0 ≡ false) × (find nat_cmp o.0 es ≡ Some o.1))
            (λ o. find nat_cmp o.0 (e ∷ es) ≡ Some o.1)
            (λ o here. ap (λ b. cond b (Some e.1) (find nat_cmp o.0 es)) here.0 ∙ here.1) es
            (all_two (λ o. eq_by_cmp nat_cmp o.0 e.0 ≡ false) (λ o. find nat_cmp o.0 es ≡ Some o.1) es
            (apart_from e.0 es both.0) (sorted_found es both.1)),
      )

  -- what a map lists it has at the name
  pub entries_found : (m : FinMap nat_cmp X) → AllByRecursion (λ e. get m e.0 ≡ Some e.1) (entries m)
  entries_found m = all_weaker (λ e. find nat_cmp e.0 (entries m) ≡ Some e.1) (λ e. get m e.0 ≡ Some e.1)
      (λ e here. get-entries m e.0 ∙ here) (entries m) (sorted_found (entries m) (entries_sorted m))

  -- ---- the list by name of a list

  none_listed : (P : ℕ × X → Type 0) (es : List (ℕ × X)) → length es ≡ 0 → AllByRecursion P es
  none_listed P [] none = tt
  none_listed P (e ∷ es) none = absurd (omega (arith, none))

  all_put : (P : ℕ × X → Type 0) (name : ℕ) (x : X) (es : List (ℕ × X)) → P (name, x) → AllByRecursion P es
      → AllByRecursion P (put nat_cmp name x es)
  all_put P name x [] here all = (here, tt)
  all_put P name x (e ∷ es) here all = by (nat_cmp name e.0) refl (all_put P name x es here all.1)
    where
      by : (r : Ordering) → nat_cmp name e.0 ≡ r → AllByRecursion P (put nat_cmp name x es)
          → AllByRecursion P (by_order r ((name, x) ∷ e ∷ es) ((e.0, x) ∷ es) (e ∷ put nat_cmp name x es))
      by Less is rest = (here, all)
      by Equal is rest = (subst (λ (some : ℕ). P (some, x)) (exact_unsigned name e.0 is) here, all.1)
      by Greater is rest = (all.0, rest)

  pub named_all : (P : ℕ × X → Type 0) (es : List (ℕ × X)) → AllByRecursion P es
      → AllByRecursion P (entries (from_entries {R = nat_cmp} es))
  named_all P [] all = none_listed P (entries (empty {X = X} {R = nat_cmp}))
      (sym (len-entries (empty {X = X} {R = nat_cmp})) ∙ len-empty nat_cmp X)
  named_all P (e ∷ es) all = subst (AllByRecursion P)
      (sym (entries-insert nat_cmp_total (from_entries {R = nat_cmp} es) e.0 e.1))
      (all_put P e.0 e.1 (entries (from_entries {R = nat_cmp} es)) all.0 (named_all P es all.1))

  pub named_found : (es : List (ℕ × X)) (name : ℕ)
      → find nat_cmp name (entries (from_entries {R = nat_cmp} es)) ≡ find nat_cmp name es
  named_found es name = sym (get-entries (from_entries {R = nat_cmp} es) name)
      ∙ get-from_entries nat_cmp_total es name

-- ---- images

-- what stands in an image with objects stood there before, or is one of them
pub put_which : (P : ℕ × Object → Type 0) (image : Image) (es : List (ℕ × Object)) (name : ℕ) (object : Object)
    → AllByRecursion P es → get (with_objects image es) name ≡ Some object
    → (get image name ≡ Some object) ⊎ P (name, object)
put_which P image [] name object all found = inl found
put_which P image (e ∷ es) name object all found =
    elim (put_which P (insert image e.0 e.1) es name object all.1 found) [
      | inl here ↦ elim (cases_eq name e.0) [
        | inl same ↦ inr (subst (λ (some : ℕ). P (some, object)) (sym same)
            (subst (λ some. P (e.0, some)) (same_Some e.1 object
            (sym (get-insert_same image e.0 e.1 name same) ∙ here)) all.0))
        | inr apart ↦ inl (sym (get-insert_other image e.0 e.1 name apart) ∙ here)
      ]
      | inr new ↦ inr new
    ]

inserted_some : (image : Image) (e : ℕ × Object) (name : ℕ) → is_some (get image name) ≡ true
    → is_some (get (insert image e.0 e.1) name) ≡ true
inserted_some image e name some = ap is_some (get-insert nat_cmp_total image e.0 e.1 name)
    ∙ elim (eq_by_cmp nat_cmp name e.0) as (λ b. is_some (cond b (Some e.1) (get image name)) ≡ true) [
      | true ↦ refl
      | false ↦ some
    ]

-- what was there is there
pub put_stays : (image : Image) (es : List (ℕ × Object)) (name : ℕ) → is_some (get image name) ≡ true
    → is_some (get (with_objects image es) name) ≡ true
put_stays image [] name some = some
put_stays image (e ∷ es) name some = put_stays (insert image e.0 e.1) es name (inserted_some image e name some)

-- what was put is there
pub put_there : (image : Image) (es : List (ℕ × Object)) (name : ℕ) → is_some (find nat_cmp name es) ≡ true
    → is_some (get (with_objects image es) name) ≡ true
put_there image [] name some = absurd (false≢true some)
put_there image (e ∷ es) name some = by (eq_by_cmp nat_cmp name e.0) refl some
    (put_there (insert image e.0 e.1) es name)
  where
    by : (b : Bool) → eq_by_cmp nat_cmp name e.0 ≡ b
        → is_some (cond b (Some e.1) (find nat_cmp name es)) ≡ true
        → (is_some (find nat_cmp name es) ≡ true
        → is_some (get (with_objects (insert image e.0 e.1) es) name) ≡ true)
        → is_some (get (with_objects (insert image e.0 e.1) es) name) ≡ true
    by true is some rest = put_stays (insert image e.0 e.1) es name
        (ap is_some (get-insert nat_cmp_total image e.0 e.1 name ∙ ap (λ t. cond t (Some e.1) (get image name)) is))
    by false is some rest = rest some

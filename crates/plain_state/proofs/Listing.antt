-- Names in order, and which changed objects come into a list.
use Rattle.std.proofs.Common.{◌≡◌, ◌∙◌, refl, sym, ap, ℕ, Bool, true, false, ◌&&◌, cond, ◌||◌, nat_eq, List, [], ◌∷◌, ◌++◌, map, filter, Option, Some, None, is_some, option_map}
use Rattle.std.specs.Prelude.{T}
use Rattle.std.specs.List.{AllByRecursion, list_any, dedup, dedup_from}
use Rattle.std.specs.Option.{option_to_list}
use Rattle.std.specs.List.Sorted.{IsStrictlySortedBy, IsSorted, IsPermutation}
use Rattle.std.specs.Ordering.{eq_by_cmp, is_lt, is_eq, nat_cmp}
use Rattle.std.specs.Cmp.{tied_itself}
use Rattle.std.specs.declared.cmp.Ordering.{Ordering}
use Rattle.std.specs.declared.cmp.Ordering.TheVariants.{Less, Equal, Greater}
use Rattle.std.specs.FinMap.{FinMap, get, find, keys, entries, entries_sorted, from_sorted, entries-from_sorted, get-from_sorted, from_entries, get-entries, get-from_entries, contains_key-keys, same_map, nat_cmp-IsAntisymmetric}
use Rattle.std.specs.FinMap.Entries.{is_sorted, below_all, is_some-find}
use Rattle.std.proofs.lemmas.Bool.{false≢true, eqb-true}
use Rattle.std.proofs.lemmas.Cmp.{nat_cmp_total}
use Rattle.std.proofs.lemmas.List.Kept.{IsStrictlySortedBy-dedup}
use Rattle.std.proofs.lemmas.List.Sorted.{list_any-IsPermutation}
use Rattle.gem_object.specs.declared.object.Object.{Object}
use Rattle.gem_image.specs.Image.{Contents, contents_of}
use Rattle.gem_record.specs.RunNames.{marked, ascending}
use Rattle.gem_record.specs.Record.{uncommitted, all_uncommitted}
use Rattle.running_objects.specs.Seen.{Seen}
use Rattle.plain_state.specs.Overlay.{contents_by_name}
use Rattle.plain_state.specs.Lists.{is_chosen, chosen_by, all_chosen}
use Rattle.plain_state.proofs.Changes.{tied}

-- ---- names in order

marked_names : (names : List ℕ) → map (λ (entry : ℕ × Unit {0}). entry.0) (marked names) ≡ names
marked_names [] = refl
marked_names (name ∷ names) = ap (λ rest. name ∷ rest) (marked_names names)

below_marked : (name : ℕ) (names : List ℕ) → AllByRecursion (λ other. nat_cmp name other ≡ Less) names
    → T (below_all nat_cmp name (marked names))
below_marked name [] below = tt
below_marked name (other ∷ names) below = rw below.0 (below_marked name names below.1)

both : (a b : Bool) → T a → T b → T (a && b)
both true b p q = q
both false b p q = p

sorted_marked : (names : List ℕ) → IsStrictlySortedBy nat_cmp names → T (is_sorted nat_cmp (marked names))
unfolding IsStrictlySortedBy
sorted_marked [] sorted = tt
sorted_marked (name ∷ names) sorted = both _ _ (below_marked name names sorted.0) (sorted_marked names sorted.1)

-- a list in order that has the same names is the list of them
-- two that both hold nothing, or both don't
alike : (found other : Option (Unit {0})) → is_some found ≡ is_some other → found ≡ other
alike None None is = refl
alike None (Some _) is = absurd (false≢true is)
alike (Some _) None is = absurd (false≢true (sym is))
alike (Some _) (Some _) is = refl

found_marked : (names : List ℕ) (name : ℕ)
    → is_some (find nat_cmp name (marked names)) ≡ list_any (eq_by_cmp nat_cmp name) names
found_marked names name = is_some-find nat_cmp name (marked names)
    ∙ ap (list_any (eq_by_cmp nat_cmp name)) (marked_names names)

pub ascending_is : (names sorted : List ℕ) → IsStrictlySortedBy nat_cmp sorted
    → ((name : ℕ) → list_any (eq_by_cmp nat_cmp name) names ≡ list_any (eq_by_cmp nat_cmp name) sorted)
    → ascending names ≡ sorted
ascending_is names sorted in_order same =
    let set : FinMap nat_cmp (Unit {0}) = from_sorted (marked sorted) in
    let ordered : T (is_sorted nat_cmp (marked sorted)) = sorted_marked sorted in_order in
    let is : from_entries (marked names) ≡ set = same_map nat_cmp_total nat_cmp-IsAntisymmetric (from_entries (marked names)) set
    (λ name. get-from_entries nat_cmp_total (marked names) name
    ∙ alike (find nat_cmp name (marked names)) (find nat_cmp name (marked sorted))
    (found_marked names name ∙ same name ∙ sym (found_marked sorted name))
    ∙ sym (get-from_sorted nat_cmp (marked sorted) name ordered)) in
    ap keys is ∙ ap (map (λ (entry : ℕ × Unit {0}). entry.0)) (entries-from_sorted nat_cmp (marked sorted) ordered)
    ∙ marked_names sorted

parts_of : (a b : Bool) → T (a && b) → T a × T b
parts_of true b p = (tt, p)
parts_of false b p = absurd p

less : (order : Ordering) → T (is_lt order) → order ≡ Less
less Less p = refl
less Equal p = absurd p
less Greater p = absurd p

module _ {X : Type 0} where
  all_below : (name : ℕ) (es : List (ℕ × X)) → T (below_all nat_cmp name es)
      → AllByRecursion (λ other. nat_cmp name other ≡ Less) (map (λ entry. entry.0) es)
  all_below name [] below = tt
  all_below name (e ∷ es) below =
      let parts = parts_of (is_lt (nat_cmp name e.0)) (below_all nat_cmp name es) below in
      (less (nat_cmp name e.0) parts.0, all_below name es parts.1)

  sorted_names : (es : List (ℕ × X)) → T (is_sorted nat_cmp es) → IsStrictlySortedBy nat_cmp (map (λ entry. entry.0) es)
  unfolding IsStrictlySortedBy
  sorted_names [] sorted = tt
  sorted_names (e ∷ es) sorted =
      let parts = parts_of (below_all nat_cmp e.0 es) (is_sorted nat_cmp es) sorted in
      (all_below e.0 es parts.0, sorted_names es parts.1)

  pub keys_sorted : (m : FinMap nat_cmp X) → IsStrictlySortedBy nat_cmp (keys m)
  keys_sorted m = sorted_names (entries m) (entries_sorted m)

same_names : (es : List (ℕ × Object))
    → map (λ (entry : ℕ × Contents). entry.0) (map (λ (entry : ℕ × Object). (entry.0, contents_of entry.1)) es)
    ≡ map (λ (entry : ℕ × Object). entry.0) es
same_names [] = refl
same_names (e ∷ es) = ap (λ rest. e.0 ∷ rest) (same_names es)

-- the names of entries in order are those of the map that the entries make
pub names_of_entries : (es : List (ℕ × Object)) → ascending (map (λ (entry : ℕ × Object). entry.0) es) ≡ keys (contents_by_name es)
names_of_entries es = ascending_is (map (λ (entry : ℕ × Object). entry.0) es) (keys (contents_by_name es)) (keys_sorted (contents_by_name es))
    (λ name. sym (sym (contains_key-keys (contents_by_name es) name)
    ∙ ap is_some (get-from_entries nat_cmp_total (map (λ (entry : ℕ × Object). (entry.0, contents_of entry.1)) es) name)
    ∙ is_some-find nat_cmp name (map (λ (entry : ℕ × Object). (entry.0, contents_of entry.1)) es)
    ∙ ap (list_any (eq_by_cmp nat_cmp name)) (same_names es)))

-- ---- each entry is found under its name

apart : (name other : ℕ) → nat_cmp name other ≡ Less → eq_by_cmp nat_cmp other name ≡ false
apart name other below = tied other name ∙ by (nat_eq other name) refl
  where
    by : (b : Bool) → nat_eq other name ≡ b → b ≡ false
    by false is = refl
    by true is =
        let same : nat_cmp other other ≡ Less =
        ap (λ (n : ℕ). nat_cmp n other) (eqb-true other name is) ∙ below in
        let tie : Equal ≡ Less = sym (tied_itself nat_cmp_total other) ∙ same in
        cc

module _ {X : Type 0} where
  abbrev AreFound : List (ℕ × X) → List (ℕ × X) → Type 0
  AreFound whole es = AllByRecursion (λ e. find nat_cmp e.0 whole ≡ Some e.1) es

  found_behind : (first : ℕ × X) (whole es : List (ℕ × X)) → T (below_all nat_cmp first.0 es)
      → AreFound whole es → AreFound (first ∷ whole) es
  found_behind first whole [] below found = tt
  found_behind first whole (e ∷ es) below found =
      let parts = parts_of (is_lt (nat_cmp first.0 e.0)) (below_all nat_cmp first.0 es) below in (
        ap (λ b. cond b (Some first.1) (find nat_cmp e.0 whole)) (apart first.0 e.0 (less (nat_cmp first.0 e.0) parts.0)) ∙ found.0,
        found_behind first whole es parts.1 found.1,
      )

  all_found : (es : List (ℕ × X)) → T (is_sorted nat_cmp es) → AreFound es es
  all_found [] sorted = tt
  all_found (e ∷ es) sorted =
      let parts = parts_of (below_all nat_cmp e.0 es) (is_sorted nat_cmp es) sorted in (
        ap (λ order. cond (is_eq order) (Some e.1) (find nat_cmp e.0 es)) (tied_itself nat_cmp_total e.0),
        found_behind e es es parts.0 (all_found es parts.1),
      )

-- ---- which objects come into a list

module _ (made : Bool) (x : Seen) where
  one_chosen : (e : ℕ × Contents) (found : Option Contents) (rest : List (ℕ × Object)) (others : List (ℕ × Contents))
      → found ≡ Some e.1 → rest ≡ all_uncommitted others
      → option_to_list (option_map (λ object. (e.0, object)) (chosen_by made e.0 x found)) ++ rest
      ≡ all_uncommitted (cond (is_chosen made x.setting x.world e) (e ∷ others) others)
  one_chosen e found rest others is more =
      ap (λ there. option_to_list (option_map (λ object. (e.0, object)) (chosen_by made e.0 x there)) ++ rest) is
      ∙ by (is_chosen made x.setting x.world e)
    where
      by : (b : Bool) → option_to_list (option_map (λ object. (e.0, object)) (cond b (Some (uncommitted e.1)) None)) ++ rest
          ≡ all_uncommitted (cond b (e ∷ others) others)
      by true = ap (λ list. (e.0, uncommitted e.1) ∷ list) more
      by false = more

  chosen_among : (es : List (ℕ × Contents)) → AreFound (entries x.world.changes) es
      → all_chosen made x (map (λ entry. entry.0) es)
      ≡ all_uncommitted (filter (is_chosen made x.setting x.world) es)
  chosen_among [] found = refl
  chosen_among (e ∷ es) found = one_chosen e (get x.world.changes e.0) (all_chosen made x (map (λ entry. entry.0) es))
      (filter (is_chosen made x.setting x.world) es) (get-entries x.world.changes e.0 ∙ found.0) (chosen_among es found.1)

  pub chosen_are : all_chosen made x (keys x.world.changes)
      ≡ all_uncommitted (filter (is_chosen made x.setting x.world) (entries x.world.changes))
  chosen_are = chosen_among (entries x.world.changes) (all_found (entries x.world.changes) (entries_sorted x.world.changes))

-- ---- a list that was sorted, with each name once

-- what `dedup` leaves passes a test where the list does, if the test takes same elements alike
dedup_from_any : {X : Type 0} (same : X → X → Bool) (test : X → Bool) → ((x y : X) → same x y ≡ true → test x ≡ test y)
    → (kept : X) (xs : List X) → list_any test (dedup_from same kept xs) ≡ (test kept || list_any test xs)
dedup_from_any same test alike kept [] = refl
dedup_from_any same test alike kept (x ∷ xs) = by (same x kept) refl (dedup_from_any same test alike kept xs) (dedup_from_any same test alike x xs)
  where
    again : (a b c : Bool) → b ≡ a → (a || c) ≡ (a || (b || c))
    again true b c is = refl
    again false b c is = ap (λ d. d || c) (sym is)

    by : (b : Bool) → same x kept ≡ b
        → list_any test (dedup_from same kept xs) ≡ (test kept || list_any test xs)
        → list_any test (dedup_from same x xs) ≡ (test x || list_any test xs)
        → list_any test (cond b (dedup_from same kept xs) (kept ∷ dedup_from same x xs))
        ≡ (test kept || (test x || list_any test xs))
    by true is first second = first ∙ again (test kept) (test x) (list_any test xs) (alike x kept is)
    by false is first second = ap (λ d. test kept || d) second

dedup_any : {X : Type 0} (same : X → X → Bool) (test : X → Bool) → ((x y : X) → same x y ≡ true → test x ≡ test y)
    → (xs : List X) → list_any test (dedup same xs) ≡ list_any test xs
dedup_any same test alike [] = refl
dedup_any same test alike (x ∷ xs) = dedup_from_any same test alike x xs

pub sorted_once : (names copy sorted once : List ℕ) → copy ≡ names → IsPermutation copy sorted → IsSorted nat_cmp sorted
    → once ≡ dedup nat_eq sorted → ascending names ≡ once
sorted_once names copy sorted once same permuted in_order is =
    let strictly : IsStrictlySortedBy nat_cmp (dedup nat_eq sorted) =
    IsStrictlySortedBy-dedup nat_cmp_total (λ x y. sym (tied x y)) sorted in_order in
    ascending_is names (dedup nat_eq sorted) strictly
    (λ name. ap (list_any (eq_by_cmp nat_cmp name)) (sym same)
    ∙ list_any-IsPermutation (eq_by_cmp nat_cmp name) copy sorted permuted
    ∙ sym (dedup_any nat_eq (eq_by_cmp nat_cmp name) (λ x y alike. ap (eq_by_cmp nat_cmp name) (eqb-true x y alike)) sorted))
    ∙ sym is

-- names in order
pub ascending_sorted : (names : List ℕ) → IsStrictlySortedBy nat_cmp (ascending names)
ascending_sorted names = keys_sorted (from_entries (marked names))

-- objects in order by name
module _ {X : Type 0} (passes : ℕ × X → Bool) where
  below_filtered : (name : ℕ) (es : List (ℕ × X)) → T (below_all nat_cmp name es) → T (below_all nat_cmp name (filter passes es))
  below_filtered name [] below = tt
  below_filtered name (e ∷ es) below =
      let parts = parts_of (is_lt (nat_cmp name e.0)) (below_all nat_cmp name es) below in
      by (passes e) (both _ _ parts.0 (below_filtered name es parts.1)) (below_filtered name es parts.1)
    where
      by : (b : Bool) → T (below_all nat_cmp name (e ∷ filter passes es)) → T (below_all nat_cmp name (filter passes es))
          → T (below_all nat_cmp name (cond b (e ∷ filter passes es) (filter passes es)))
      by true with_it without = with_it
      by false with_it without = without

  sorted_filtered : (es : List (ℕ × X)) → T (is_sorted nat_cmp es) → T (is_sorted nat_cmp (filter passes es))
  sorted_filtered [] sorted = tt
  sorted_filtered (e ∷ es) sorted =
      let parts = parts_of (below_all nat_cmp e.0 es) (is_sorted nat_cmp es) sorted in
      by (passes e) (both _ _ (below_filtered e.0 es parts.0) (sorted_filtered es parts.1)) (sorted_filtered es parts.1)
    where
      by : (b : Bool) → T (is_sorted nat_cmp (e ∷ filter passes es)) → T (is_sorted nat_cmp (filter passes es))
          → T (is_sorted nat_cmp (cond b (e ∷ filter passes es) (filter passes es)))
      by true with_it without = with_it
      by false with_it without = without

  pub filtered_sorted : (m : FinMap nat_cmp X) → IsStrictlySortedBy nat_cmp (map (λ entry. entry.0) (filter passes (entries m)))
  filtered_sorted m = sorted_names (filter passes (entries m)) (sorted_filtered (entries m) (entries_sorted m))

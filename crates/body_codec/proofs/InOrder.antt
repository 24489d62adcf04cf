-- Lists whose keys ascend, or are distinct, item by item.
use Rattle.std.proofs.Common.{◌≡◌, suc, ◌-◌, Bool, true, false, cond, List, [], ◌∷◌, ◌++◌, length, map, IsTrue, Some, option_map, is_some, Ordering, refl, sym, ap, subst, ◌∙◌, append_assoc, append-nil, arith}
use Rattle.std.specs.Cmp.{IsTotalOrder}
use Rattle.std.specs.List.{AllByRecursion, slice_get}
use Rattle.std.specs.List.Sorted.{IsStrictlySortedBy}
use Rattle.std.specs.Ordering.{is_lt}
use Rattle.std.specs.declared.cmp.Ordering.TheVariants.{Less, Equal, Greater}
use Rattle.std.proofs.lemmas.Bool.{false≢true}
use Rattle.gem_object.specs.insertion_map.Pairs.{AreDistinct, entry_of}
use Rattle.body_codec.specs.Reading.{last_of, is_above}
use Rattle.body_codec.proofs.Lists.{AllAfter}

less_is : (o : Ordering) → is_lt o ≡ true → o ≡ Less
less_is Less e = refl
less_is Equal e = absurd (false≢true e)
less_is Greater e = absurd (false≢true e)

last_more : {X : Type 0} (x y : X) (ys : List X) → last_of (x ∷ y ∷ ys) ≡ last_of (y ∷ ys)
last_more x y ys =
    let one : length (x ∷ y ∷ ys) - 1 ≡ suc (length (y ∷ ys) - 1) = omega arith in
    ap (slice_get (x ∷ y ∷ ys)) one

-- ---- keys that ascend

module _ {X K : Type 0} (key : X → K) (cmp : K → K → Ordering) (total : IsTotalOrder cmp) where
  -- the item's key is above that of the last
  abbrev pub IsAbove : List X → X → Type 0
  IsAbove before x = IsTrue (is_above cmp (option_map key (last_of before)) (key x))

  abbrev pub AreSorted : List X → Type 0
  AreSorted xs = IsStrictlySortedBy cmp (map key xs)

  above_tail : (y z : X) (zs : List X) (x : X) → IsAbove (y ∷ z ∷ zs) x → IsAbove (z ∷ zs) x
  above_tail y z zs x above =
      subst (λ o. IsTrue (is_above cmp (option_map key o) (key x))) (last_more y z zs) above

  above_whole : (y z : X) (zs : List X) (x : X) → IsAbove (z ∷ zs) x → IsAbove (y ∷ z ∷ zs) x
  above_whole y z zs x above =
      subst (λ o. IsTrue (is_above cmp (option_map key o) (key x))) (sym (last_more y z zs)) above

  above_rest : (y : X) (ys : List X) (x : X) → IsAbove (y ∷ ys) x → IsAbove ys x
  above_rest y [] x above = refl
  above_rest y (z ∷ zs) x above = above_tail y z zs x above

  first_below : (y : X) (ys : List X) (x : X) → AreSorted (y ∷ ys) → IsAbove (y ∷ ys) x
      → cmp (key y) (key x) ≡ Less
  unfolding IsStrictlySortedBy
  first_below y [] x sorted above = less_is (cmp (key y) (key x)) above
  first_below y (z ∷ zs) x sorted above = total.trans (key y) (key z) (key x) sorted.0.0
      (first_below z zs x sorted.1 (above_tail y z zs x above))

  all_more : (P : K → Type 0) (xs : List X) (x : X) → AllByRecursion P (map key xs) → P (key x)
      → AllByRecursion P (map key (xs ++ x ∷ []))
  all_more P [] x all is = (is, tt)
  all_more P (y ∷ ys) x all is = (all.0, all_more P ys x all.1 is)

  grown : (xs : List X) (x : X) → AreSorted xs → IsAbove xs x → AreSorted (xs ++ x ∷ [])
  unfolding IsStrictlySortedBy
  grown [] x sorted above = (tt, tt)
  grown (y ∷ ys) x sorted above = (
    all_more (λ k. cmp (key y) k ≡ Less) ys x sorted.0 (first_below y ys x sorted above),
    grown ys x sorted.1 (above_rest y ys x above),
  )

  -- one item of a list is above those before it
  within : (before : List X) (x : X) (xs : List X) → AreSorted (before ++ x ∷ xs) → IsAbove before x
  unfolding IsStrictlySortedBy
  within [] x xs sorted = refl
  within (y ∷ []) x xs sorted = ap is_lt sorted.0.0
  within (y ∷ z ∷ zs) x xs sorted = above_whole y z zs x (within (z ∷ zs) x xs sorted.1)

  module _ (P : List X → X → Type 0) (Q : X → Type 0) where
    module _ (is : (before : List X) (x : X) → P before x → Q x × IsAbove before x) where
      pub all_hold : (before xs : List X) → AllAfter P before xs → AllByRecursion Q xs
      all_hold before [] all = tt
      all_hold before (x ∷ xs) all = ((is before x all.0).0, all_hold (before ++ x ∷ []) xs all.1)

      sorted_from : (before xs : List X) → AreSorted before → AllAfter P before xs → AreSorted (before ++ xs)
      sorted_from before [] sorted all = subst AreSorted (sym (append-nil before)) sorted
      sorted_from before (x ∷ xs) sorted all = subst AreSorted (append_assoc before (x ∷ []) xs)
          (sorted_from (before ++ x ∷ []) xs (grown before x sorted (is before x all.0).1) all.1)

      pub all_sorted : (xs : List X) → AllAfter P [] xs → AreSorted xs
      unfolding IsStrictlySortedBy
      all_sorted xs all = sorted_from [] xs tt all

    module _ (is : (before : List X) (x : X) → Q x → IsAbove before x → P before x) where
      each_after : (before xs : List X) → AreSorted (before ++ xs) → AllByRecursion Q xs → AllAfter P before xs
      each_after before [] sorted all = tt
      each_after before (x ∷ xs) sorted all = (
        is before x all.0 (within before x xs sorted),
        each_after (before ++ x ∷ []) xs (subst AreSorted (sym (append_assoc before (x ∷ []) xs)) sorted) all.1,
      )

      pub all_after : (xs : List X) → AreSorted xs → AllByRecursion Q xs → AllAfter P [] xs
      all_after xs sorted all = each_after [] xs sorted all

-- ---- keys of which none stands twice

module _ {K T : Type 0} (eq : K → K → Bool) (symmetric : (x y : K) → eq x y ≡ eq y x) where
  -- the pair's key is none of those before it
  abbrev pub IsNew : List (K × T) → K × T → Type 0
  IsNew before pair = is_some (entry_of eq pair.0 before) ≡ false

  none_here : (key : K) (y : K × T) (ys : List (K × T)) → is_some (entry_of eq key (y ∷ ys)) ≡ false
      → (eq key y.0 ≡ false) × (is_some (entry_of eq key ys) ≡ false)
  none_here key y ys e = by (eq key y.0) refl e where
    by : (b : Bool) → eq key y.0 ≡ b → is_some (cond b (Some y.1) (entry_of eq key ys)) ≡ false
        → (eq key y.0 ≡ false) × (is_some (entry_of eq key ys) ≡ false)
    by true is e = absurd (false≢true (sym e))
    by false is e = (is, e)

  all_pushed : (P : K × T → Type 0) (xs : List (K × T)) (x : K × T) → AllByRecursion P xs → P x
      → AllByRecursion P (xs ++ x ∷ [])
  all_pushed P [] x all is = (is, tt)
  all_pushed P (y ∷ ys) x all is = (all.0, all_pushed P ys x all.1 is)

  distinct_grown : (xs : List (K × T)) (x : K × T) → AreDistinct eq xs → IsNew xs x
      → AreDistinct eq (xs ++ x ∷ [])
  distinct_grown [] x distinct new = (tt, tt)
  distinct_grown (y ∷ ys) x distinct new =
      let parts = none_here x.0 y ys new in (
        all_pushed (λ later. eq y.0 later.0 ≡ false) ys x distinct.0 (symmetric y.0 x.0 ∙ parts.0),
        distinct_grown ys x distinct.1 parts.1,
      )

  apart_within : (P : K × T → Type 0) (front back : List (K × T)) (x : K × T)
      → AllByRecursion P (front ++ x ∷ back) → P x
  apart_within P [] back x all = all.0
  apart_within P (y ∷ front) back x all = apart_within P front back x all.1

  new_within : (before : List (K × T)) (x : K × T) (xs : List (K × T)) → AreDistinct eq (before ++ x ∷ xs)
      → IsNew before x
  new_within [] x xs distinct = refl
  new_within (y ∷ ys) x xs distinct =
      let here : eq x.0 y.0 ≡ false = symmetric x.0 y.0
      ∙ apart_within (λ later. eq y.0 later.0 ≡ false) ys xs x distinct.0 in
      ap (λ b. is_some (cond b (Some y.1) (entry_of eq x.0 ys))) here ∙ new_within ys x xs distinct.1

  module _ (P : List (K × T) → K × T → Type 0) (Q : K × T → Type 0) where
    module _ (is : (before : List (K × T)) (x : K × T) → P before x → Q x × IsNew before x) where
      pub all_kept : (before xs : List (K × T)) → AllAfter P before xs → AllByRecursion Q xs
      all_kept before [] all = tt
      all_kept before (x ∷ xs) all = ((is before x all.0).0, all_kept (before ++ x ∷ []) xs all.1)

      distinct_from : (before xs : List (K × T)) → AreDistinct eq before → AllAfter P before xs
          → AreDistinct eq (before ++ xs)
      distinct_from before [] distinct all = subst (AreDistinct eq) (sym (append-nil before)) distinct
      distinct_from before (x ∷ xs) distinct all = subst (AreDistinct eq) (append_assoc before (x ∷ []) xs)
          (distinct_from (before ++ x ∷ []) xs (distinct_grown before x distinct (is before x all.0).1) all.1)

      pub all_distinct : (xs : List (K × T)) → AllAfter P [] xs → AreDistinct eq xs
      all_distinct xs all = distinct_from [] xs tt all

    module _ (is : (before : List (K × T)) (x : K × T) → Q x → IsNew before x → P before x) where
      each_new : (before xs : List (K × T)) → AreDistinct eq (before ++ xs) → AllByRecursion Q xs
          → AllAfter P before xs
      each_new before [] distinct all = tt
      each_new before (x ∷ xs) distinct all = (
        is before x all.0 (new_within before x xs distinct),
        each_new (before ++ x ∷ []) xs (subst (AreDistinct eq) (sym (append_assoc before (x ∷ []) xs)) distinct) all.1,
      )

      pub all_new : (xs : List (K × T)) → AreDistinct eq xs → AllByRecursion Q xs → AllAfter P [] xs
      all_new xs distinct all = each_new [] xs distinct all

-- ---- items that don't depend on those before them

module _ {X : Type 0} (Q : X → Type 0) where
  pub any_hold : (before xs : List X) → AllAfter (λ _ x. Q x) before xs → AllByRecursion Q xs
  any_hold before [] all = tt
  any_hold before (x ∷ xs) all = (all.0, any_hold (before ++ x ∷ []) xs all.1)

  pub any_after : (before xs : List X) → AllByRecursion Q xs → AllAfter (λ _ x. Q x) before xs
  any_after before [] all = tt
  any_after before (x ∷ xs) all = (all.0, any_after (before ++ x ∷ []) xs all.1)

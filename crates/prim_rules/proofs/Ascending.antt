-- Lists that ascend, with one item more or less.
use Rattle.std.specs.Prelude.{◌≡◌, Bool, true, false, cond, List, [], ◌∷◌, map}
use Rattle.std.proofs.Common.{refl, ap, ◌∙◌}
use Rattle.std.specs.declared.cmp.Ordering.{Ordering}
use Rattle.std.specs.declared.cmp.Ordering.TheVariants.{Less, Equal, Greater}
use Rattle.std.specs.Ordering.{match_ordering, ordering_reverse}
use Rattle.std.specs.Cmp.{IsTotalOrder}
use Rattle.std.specs.List.{AllByRecursion}
use Rattle.std.specs.List.Sorted.{IsStrictlySortedBy}
use Rattle.std.specs.BTreeMap.{insert_entry}
use Rattle.std.specs.BTreeSet.{insert_key}
use Rattle.std.specs.Map.{remove_entry}
use Rattle.std.specs.Set.{remove_key}

module _ {K : Type 0} (cmp : K → K → Ordering) (total : IsTotalOrder cmp) where
  Above : K → List K → Type 0
  Above low keys = AllByRecursion (λ key. cmp low key ≡ Less) keys

  -- a key above the lowest stays so among the others
  above_all : (low key : K) (keys : List K) → cmp low key ≡ Less → Above low keys
      → Above low (insert_key cmp keys key)
  unfolding Above
  above_all low key [] less all = (less, tt)
  above_all low key (x ∷ rest) less all =
      by (cmp key x) (above_all low key rest less all.1)
    where
      by : (order : Ordering) → Above low (insert_key cmp rest key) → Above low
          (match_ordering order (key ∷ x ∷ rest) (x ∷ rest) (x ∷ insert_key cmp rest key))
      by Less more = (less, all)
      by Equal more = all
      by Greater more = (all.0, more)

  -- what is above a key is above what is below that key
  above_lower : (low key : K) (keys : List K) → cmp low key ≡ Less → Above key keys
      → Above low keys
  unfolding Above
  above_lower low key [] less all = tt
  above_lower low key (x ∷ rest) less all =
      (total.trans low key x less all.0, above_lower low key rest less all.1)

  pub insert_ascends : (keys : List K) (key : K) → IsStrictlySortedBy cmp keys
      → IsStrictlySortedBy cmp (insert_key cmp keys key)
  unfolding IsStrictlySortedBy Above
  insert_ascends [] key sorted = (tt, tt)
  insert_ascends (x ∷ rest) key sorted =
      by (cmp key x) refl (insert_ascends rest key sorted.1)
    where
      by : (order : Ordering) → cmp key x ≡ order
          → IsStrictlySortedBy cmp (insert_key cmp rest key) → IsStrictlySortedBy cmp
          (match_ordering order (key ∷ x ∷ rest) (x ∷ rest) (x ∷ insert_key cmp rest key))
      by Less less more = ((less, above_lower key x rest less sorted.0), sorted)
      by Equal same more = sorted
      by Greater greater more = (
        above_all x key rest (total.antisymm x key ∙ ap ordering_reverse greater) sorted.0,
        more,
      )

  -- what is above all keys is above those that are left
  above_left : (low : K) (test : K → Bool) (keys : List K) → Above low keys
      → Above low (remove_key test keys)
  unfolding Above
  above_left low test [] all = tt
  above_left low test (x ∷ rest) all = by (test x) (above_left low test rest all.1)
    where
      by : (is_it : Bool) → Above low (remove_key test rest)
          → Above low (cond is_it rest (x ∷ remove_key test rest))
      by true left = all.1
      by false left = (all.0, left)

  pub remove_ascends : (test : K → Bool) (keys : List K) → IsStrictlySortedBy cmp keys
      → IsStrictlySortedBy cmp (remove_key test keys)
  unfolding IsStrictlySortedBy Above
  remove_ascends test [] sorted = tt
  remove_ascends test (x ∷ rest) sorted = by (test x) (remove_ascends test rest sorted.1)
    where
      by : (is_it : Bool) → IsStrictlySortedBy cmp (remove_key test rest)
          → IsStrictlySortedBy cmp (cond is_it rest (x ∷ remove_key test rest))
      by true left = sorted.1
      by false left = (above_left x test rest sorted.0, left)

module _ {K X : Type 0} where
  -- a pair more is its key more
  pub keys_with_entry : (cmp : K → K → Ordering) (pairs : List (K × X)) (key : K) (value : X)
      → map (λ pair. pair.0) (insert_entry cmp pairs key value)
      ≡ insert_key cmp (map (λ pair. pair.0) pairs) key
  keys_with_entry cmp [] key value = refl
  keys_with_entry cmp (pair ∷ rest) key value =
      by (cmp key pair.0) (keys_with_entry cmp rest key value)
    where
      by : (order : Ordering)
          → map (λ pair. pair.0) (insert_entry cmp rest key value)
          ≡ insert_key cmp (map (λ pair. pair.0) rest) key
          → map (λ pair. pair.0) (match_ordering order ((key, value) ∷ pair ∷ rest)
          ((pair.0, value) ∷ rest) (pair ∷ insert_entry cmp rest key value))
          ≡ match_ordering order (key ∷ pair.0 ∷ map (λ pair. pair.0) rest)
          (pair.0 ∷ map (λ pair. pair.0) rest)
          (pair.0 ∷ insert_key cmp (map (λ pair. pair.0) rest) key)
      by Less more = refl
      by Equal more = refl
      by Greater more = ap (λ others. pair.0 ∷ others) more

  -- a pair less is its key less
  pub keys_without_entry : (test : K → Bool) (pairs : List (K × X))
      → map (λ pair. pair.0) (remove_entry test pairs)
      ≡ remove_key test (map (λ pair. pair.0) pairs)
  keys_without_entry test [] = refl
  keys_without_entry test (pair ∷ rest) = by (test pair.0) (keys_without_entry test rest)
    where
      by : (is_it : Bool)
          → map (λ pair. pair.0) (remove_entry test rest)
          ≡ remove_key test (map (λ pair. pair.0) rest)
          → map (λ pair. pair.0) (cond is_it rest (pair ∷ remove_entry test rest))
          ≡ cond is_it (map (λ pair. pair.0) rest)
          (pair.0 ∷ remove_key test (map (λ pair. pair.0) rest))
      by true left = refl
      by false left = ap (λ others. pair.0 ∷ others) left

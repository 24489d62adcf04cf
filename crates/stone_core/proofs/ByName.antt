-- Objects that are put into a list by name, the last one first.
use Rattle.std.proofs.Common.{◌≡◌, ℕ, Bool, true, false, T, ◌&&◌, List, [], ◌∷◌, ◌++◌, map, refl, sym, ap, ◌∙◌}
use Rattle.std.specs.List.{AllByRecursion}
use Rattle.std.specs.List.Sorted.{IsStrictlySortedBy}
use Rattle.std.specs.declared.cmp.Ordering.{Ordering}
use Rattle.std.specs.declared.cmp.Ordering.TheVariants.{Less, Equal, Greater}
use Rattle.std.specs.Ordering.{nat_cmp, is_lt, match_ordering}
use Rattle.std.specs.BTreeMap.{insert_entry}
use Rattle.std.specs.FinMap.{entries, entries_sorted, from_entries, empty, entries-insert, len-empty, len-entries}
use Rattle.std.specs.FinMap.Entries.{put, by_order, below_all, is_sorted}
use Rattle.std.proofs.lemmas.Cmp.{nat_cmp_total}
use Rattle.gem_record.specs.Names.{AscendByName}
use Rattle.std.proofs.lemmas.List.{map-append, nil_from_length}

pub first_true : (a b : Bool) → T (a && b) → T a
first_true true b both = tt
first_true false b both = both

pub second_true : (a b : Bool) → T (a && b) → T b
second_true true b both = both
second_true false b both = absurd both

less : (o : Ordering) → T (is_lt o) → o ≡ Less
less Less is = refl
less Equal is = absurd is
less Greater is = absurd is

module _ {X : Type 0} where
  -- the pairs put into a list, the last one first
  abbrev pub put_on : List (ℕ × X) → List (ℕ × X) → List (ℕ × X)
  put_on [] list = list
  put_on (pair ∷ pairs) list = insert_entry nat_cmp (put_on pairs list) pair.0 pair.1

  pub last_put : (pairs : List (ℕ × X)) (pair : ℕ × X) (list : List (ℕ × X))
      → put_on (pairs ++ pair ∷ []) list ≡ put_on pairs (insert_entry nat_cmp list pair.0 pair.1)
  last_put [] pair list = refl
  last_put (first ∷ pairs) pair list =
      ap (λ more. insert_entry nat_cmp more first.0 first.1) (last_put pairs pair list)

  put_inserts : (key : ℕ) (value : X) (list : List (ℕ × X))
      → put nat_cmp key value list ≡ insert_entry nat_cmp list key value
  put_inserts key value [] = refl
  put_inserts key value (pair ∷ list) = elim (nat_cmp key pair.0) as (λ o.
      by_order o ((key, value) ∷ pair ∷ list) ((pair.0, value) ∷ list) (pair ∷ put nat_cmp key value list)
      ≡ match_ordering o ((key, value) ∷ pair ∷ list) ((pair.0, value) ∷ list) (pair ∷ insert_entry nat_cmp list key value)) [
        | Less ↦ refl
        | Equal ↦ refl
        | Greater ↦ ap (λ more. pair ∷ more) (put_inserts key value list)
      ]

  none_there : entries (empty {X = X} {R = nat_cmp}) ≡ []
  none_there = nil_from_length _ (sym (len-entries (empty {X = X} {R = nat_cmp})) ∙ len-empty nat_cmp X)

  -- put on nothing they are the entries of their map
  pub all_put : (pairs : List (ℕ × X)) → put_on pairs [] ≡ entries (from_entries {R = nat_cmp} pairs)
  all_put [] = sym none_there
  all_put (pair ∷ pairs) = ap (λ list. insert_entry nat_cmp list pair.0 pair.1) (all_put pairs)
      ∙ sym (put_inserts pair.0 pair.1 (entries (from_entries pairs)))
      ∙ sym (entries-insert nat_cmp_total (from_entries pairs) pair.0 pair.1)

  -- one pair goes from the end of those that are left to those that are put
  pub one_put : {Y : Type 0} (f : ℕ × Y → ℕ × X) (all left : List (ℕ × Y)) (pair : ℕ × Y)
      (list more : List (ℕ × X)) → all ≡ left ++ pair ∷ []
      → more ≡ insert_entry nat_cmp list (f pair).0 (f pair).1
      → put_on (map f left) more ≡ put_on (map f all) list
  one_put f all left pair list more was put_is = ap (put_on (map f left)) put_is
      ∙ sym (last_put (map f left) (f pair) list)
      ∙ ap (λ pairs. put_on pairs list) (sym (ap (map f) was ∙ map-append f left (pair ∷ [])))

  all_above : (key : ℕ) (pairs : List (ℕ × X)) → T (below_all nat_cmp key pairs)
      → AllByRecursion (λ other. nat_cmp key other ≡ Less) (map (λ pair. pair.0) pairs)
  all_above key [] above = tt
  all_above key (pair ∷ pairs) above =
      (less _ (first_true _ _ above), all_above key pairs (second_true _ _ above))

  sorted_ascend : (pairs : List (ℕ × X)) → T (is_sorted nat_cmp pairs) → AscendByName pairs
  unfolding IsStrictlySortedBy
  sorted_ascend [] sorted = tt
  sorted_ascend (pair ∷ pairs) sorted =
      (all_above pair.0 pairs (first_true _ _ sorted), sorted_ascend pairs (second_true _ _ sorted))

  -- the entries of a map ascend
  pub entries_ascend : (pairs : List (ℕ × X)) → AscendByName (entries (from_entries {R = nat_cmp} pairs))
  entries_ascend pairs = sorted_ascend _ (entries_sorted (from_entries pairs))

-- What a binary search finds in a list that ascends by its keys.
use Rattle.std.proofs.Common.{◌≡◌, ℕ, zero, suc, ◌+◌, ◌<◌, ◌≤◌, false, List, [], ◌∷◌, map, length, get_or, Result, Ok, Err, IfOk, IfErr, Ordering, sym, ap, ◌∙◌, arith}
use Rattle.std.proofs.lemmas.Cmp.{alike_right}
use Rattle.std.proofs.lemmas.List.{length-map, get_or-map}
use Rattle.std.proofs.lemmas.List.Sorted.{searchable_from_sorted}
use Rattle.std.proofs.lemmas.Map.Keys.{Less-from_sorted, sorted_head, sorted_tail}
use Rattle.std.specs.Cmp.{IsTotalOrder}
use Rattle.std.specs.List.{AllByRecursion, HoldsAt}
use Rattle.std.specs.List.Sorted.{IsSearchInRange, IsBinarySearchResult, IsNonDecreasingBy}
use Rattle.std.specs.Ordering.{is_lt, ordering_index, ordering_reverse}
use Rattle.std.specs.declared.cmp.Ordering.TheVariants.{Less, Equal, Greater}
use Rattle.sorted_pairs.specs.Place.{Ascends, StandsAt, FitsAt}

-- what is above isn't below
no_fall : {K : Type 0} {cmp : K → K → Ordering} → IsTotalOrder cmp → (x y : K) → cmp x y ≡ Less → is_lt (cmp y x) ≡ false
no_fall total x y below = ap is_lt (total.antisymm y x ∙ ap ordering_reverse below)

module _ {K X : Type 0} (cmp : K → K → Ordering) (total : IsTotalOrder cmp) (key : K) where
  -- a key below all of a list is below one that stands in it
  below_standing : (x : K) (pairs : List (K × X)) (at : ℕ) → AllByRecursion (λ y. cmp x y ≡ Less) (map (λ pair. pair.0) pairs) → StandsAt cmp key pairs at → cmp x key ≡ Less
  below_standing x [] at below stands = absurd stands
  below_standing x (pair ∷ rest) zero below stands = sym (alike_right total pair.0 key x stands) ∙ below.0
  below_standing x (pair ∷ rest) (suc at) below stands = below_standing x rest at below.1 stands.1

  stands_at : (pairs : List (K × X)) (at : ℕ) → Ascends cmp pairs → at < length pairs → HoldsAt (λ pair. cmp pair.0 key ≡ Equal) pairs at → StandsAt cmp key pairs at
  stands_at [] at ascends within holds = absurd (omega arith)
  stands_at (pair ∷ rest) zero ascends within holds = holds pair
  stands_at (pair ∷ rest) (suc at) ascends within holds =
      let there = stands_at rest at (sorted_tail cmp _ _ ascends) (omega arith) holds in
      (below_standing pair.0 rest at (sorted_head cmp _ _ ascends) there, there)

  all_above : (pairs : List (K × X)) → ((k : ℕ) (d : K × X) → k < length pairs → cmp (get_or pairs k d).0 key ≡ Greater) → AllByRecursion (λ pair. cmp pair.0 key ≡ Greater) pairs
  all_above [] above = tt
  all_above (pair ∷ rest) above = (above 0 pair (omega arith), all_above rest (λ k d h. above (suc k) d (omega arith)))

  fits_at : (pairs : List (K × X)) (at : ℕ) → at ≤ length pairs → ((k : ℕ) (d : K × X) → k < at → cmp (get_or pairs k d).0 key ≡ Less)
      → ((k : ℕ) (d : K × X) → at ≤ k → k < length pairs → cmp (get_or pairs k d).0 key ≡ Greater) → FitsAt cmp key pairs at
  fits_at pairs zero within low high = all_above pairs (λ k d h. high k d (omega arith) h)
  fits_at [] (suc at) within low high = absurd (omega arith)
  fits_at (pair ∷ rest) (suc at) within low high =
      (low 0 pair (omega arith), fits_at rest at (omega arith) (λ k d h. low (suc k) d (omega arith)) (λ k d h l. high (suc k) d (omega arith) (omega arith)))

  rises : (pairs : List (K × X)) → Ascends cmp pairs → IsNonDecreasingBy (λ pair. ordering_index (cmp pair.0 key)) pairs
  rises pairs ascends = searchable_from_sorted total (λ (pair : K × X). pair.0) pairs key (λ k d low high.
      let keys = map (λ (pair : K × X). pair.0) pairs in
      let long : length keys ≡ length pairs = length-map pairs (λ (pair : K × X). pair.0) in
      let below : cmp (get_or keys k d.0) (get_or keys (k + 1) d.0) ≡ Less = Less-from_sorted cmp keys k (k + 1) d.0 ascends (omega arith) (omega arith) in
      no_fall total _ _ (rw (sym (get_or-map (λ (pair : K × X). pair.0) pairs k d d.0 (omega arith)), sym (get_or-map (λ (pair : K × X). pair.0) pairs (k + 1) d d.0 (omega arith))) below))

  -- what a binary search answers: the place of the key, or the place where it would stand
  pub searched : (pairs : List (K × X)) → Ascends cmp pairs → (r : Result ℕ ℕ) → IsSearchInRange r (length pairs) → IsBinarySearchResult (λ pair. cmp pair.0 key) pairs r
      → IfOk r (StandsAt cmp key pairs) × IfErr r (FitsAt cmp key pairs)
  searched pairs ascends (Ok at) within answer = (stands_at pairs at ascends within answer, tt)
  searched pairs ascends (Err at) within answer =
      let parted = answer (rises pairs ascends) in
      (tt, fits_at pairs at within (λ k d h. parted.0 k d (omega arith) h) (λ k d l h. parted.1 k d l h))

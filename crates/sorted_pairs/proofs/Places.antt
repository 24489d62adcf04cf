-- The order of a list's keys, place by place.
use Rattle.std.proofs.Common.{◌≡◌, ℕ, ◌+◌, ◌-◌, ◌<◌, ◌≤◌, List, [], ◌∷◌, map, length, false, get_or, Ordering, sym, ap, ◌∙◌, arith}
use Rattle.std.proofs.lemmas.List.{length-map, get_or-map, get_or_default}
use Rattle.std.proofs.lemmas.Map.Keys.{Less-from_sorted, sorted_from_all_adjacent}
use Rattle.std.proofs.lemmas.Bool.{false≢true}
use Rattle.std.specs.Ordering.{is_lt}
use Rattle.std.specs.Cmp.{IsTotalOrder}
use Rattle.std.specs.List.Sorted.{IsStrictlySortedBy}
use Rattle.std.specs.declared.cmp.Ordering.TheVariants.{Less}
use Rattle.sorted_pairs.specs.Place.{Ascends}

module _ {K X : Type 0} (cmp : K → K → Ordering) where
  -- each of the first n keys is below the next
  abbrev pub AscendsBelow : List (K × X) → ℕ → Type 0
  AscendsBelow pairs n = (k : ℕ) (d : K × X) → k + 1 < n → cmp (get_or pairs k d).0 (get_or pairs (k + 1) d).0 ≡ Less

  pub next_below : (pairs : List (K × X)) → Ascends cmp pairs → AscendsBelow pairs (length pairs)
  next_below pairs ascends k d within =
      let keys = map (λ (pair : K × X). pair.0) pairs in
      let long = length-map pairs (λ (pair : K × X). pair.0) in
      rw (sym (get_or-map (λ (pair : K × X). pair.0) pairs k d d.0 (omega arith)), sym (get_or-map (λ (pair : K × X). pair.0) pairs (k + 1) d d.0 (omega arith)))
      (Less-from_sorted cmp keys k (k + 1) d.0 ascends (omega arith) (omega arith))

  pub ascends_from_next : IsTotalOrder cmp → (pairs : List (K × X)) → AscendsBelow pairs (length pairs) → Ascends cmp pairs
  unfolding IsStrictlySortedBy
  ascends_from_next total [] below = tt
  ascends_from_next total (pair ∷ rest) below =
      let pairs : List (K × X) = pair ∷ rest in
      let long = length-map pairs (λ (pair : K × X). pair.0) in
      sorted_from_all_adjacent total (map (λ (pair : K × X). pair.0) pairs) pair.0 (λ k within.
      rw (get_or-map (λ (pair : K × X). pair.0) pairs k pair pair.0 (omega arith), get_or-map (λ (pair : K × X). pair.0) pairs (k + 1) pair pair.0 (omega arith)) (below k pair (omega arith)))

  -- two neighbors that don't ascend
  pub not_ascending : (pairs : List (K × X)) (at : ℕ) (x y : K × X) → 1 ≤ at → at < length pairs → is_lt (cmp (get_or pairs (at - 1) x).0 (get_or pairs at y).0) ≡ false → Ascends cmp pairs → ⊥
  not_ascending pairs at x y low high test ascends =
      let below = next_below pairs ascends (at - 1) x (omega arith) in
      let here : at ≡ at - 1 + 1 = omega arith in
      let second : get_or pairs at y ≡ get_or pairs (at - 1 + 1) x = get_or_default pairs at y x high ∙ ap (λ k. get_or pairs k x) here in
      false≢true (sym test ∙ ap (λ (p : K × X). is_lt (cmp (get_or pairs (at - 1) x).0 p.0)) second ∙ ap is_lt below)

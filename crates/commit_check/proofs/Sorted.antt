-- Lists that are joined of parts by name stay in order.
use Rattle.std.proofs.Common.{◌≡◌, ℕ, List, [], ◌∷◌, ◌++◌, map, Ordering, Less, nat_cmp, flat_map, sym, subst}
use Rattle.std.specs.List.{AllByRecursion}
use Rattle.std.specs.List.Sorted.{IsStrictlySortedBy}
use Rattle.gem_record.specs.Names.{Ascend, AscendByName}

module _ {X : Type 0} where
  pub all_weaker : (P Q : X → Type 0) → ((x : X) → P x → Q x) → (xs : List X)
      → AllByRecursion P xs → AllByRecursion Q xs
  all_weaker P Q weaker [] all = tt
  all_weaker P Q weaker (x ∷ xs) all = (weaker x all.0, all_weaker P Q weaker xs all.1)

  pub all_append : (P : X → Type 0) (xs ys : List X) → AllByRecursion P xs → AllByRecursion P ys
      → AllByRecursion P (xs ++ ys)
  all_append P [] ys first others = others
  all_append P (x ∷ xs) ys first others = (first.0, all_append P xs ys first.1 others)

  module _ (cmp : X → X → Ordering) where
    -- each of the one list is below each of the other
    abbrev pub AreBelow : List X → List X → Type 0
    AreBelow xs ys = AllByRecursion (λ x. AllByRecursion (λ y. cmp x y ≡ Less) ys) xs

    pub sorted_append : (xs ys : List X) → IsStrictlySortedBy cmp xs → IsStrictlySortedBy cmp ys
        → AreBelow xs ys → IsStrictlySortedBy cmp (xs ++ ys)
    unfolding IsStrictlySortedBy
    sorted_append [] ys first others below = others
    sorted_append (x ∷ xs) ys first others below = (
      all_append (λ y. cmp x y ≡ Less) xs ys first.0 below.0,
      sorted_append xs ys first.1 others below.1,
    )

    pub sorted_one : (x : X) → IsStrictlySortedBy cmp (x ∷ [])
    unfolding IsStrictlySortedBy
    sorted_one x = (tt, tt)

    pub sorted_none : IsStrictlySortedBy cmp []
    unfolding IsStrictlySortedBy
    sorted_none = tt

    -- one list below another, by what is said of each
    pub below_by : (P Q : X → Type 0) → ((x y : X) → P x → Q y → cmp x y ≡ Less)
        → (xs ys : List X) → AllByRecursion P xs → AllByRecursion Q ys → AreBelow xs ys
    below_by P Q less [] ys first others = tt
    below_by P Q less (x ∷ xs) ys first others = (
      all_weaker Q (λ y. cmp x y ≡ Less) (λ y. less x y first.0) ys others,
      below_by P Q less xs ys first.1 others,
    )

    -- What the names of an ascending list give is in order, where what each gives is, and is told
    -- from that of other names by its own name.
    module _ (name_of : X → ℕ) (f : ℕ → List X)
        (less : (x y : X) → nat_cmp (name_of x) (name_of y) ≡ Less → cmp x y ≡ Less)
        (each : (n : ℕ) → IsStrictlySortedBy cmp (f n))
        (named : (n : ℕ) → AllByRecursion (λ x. name_of x ≡ n) (f n)) where
      over : (n : ℕ) (ns : List ℕ) → AllByRecursion (λ m. nat_cmp n m ≡ Less) ns
          → AllByRecursion (λ x. nat_cmp n (name_of x) ≡ Less) (flat_map f ns)
      over n [] below = tt
      over n (m ∷ ns) below = all_append (λ x. nat_cmp n (name_of x) ≡ Less) (f m) (flat_map f ns)
          (all_weaker (λ x. name_of x ≡ m) (λ x. nat_cmp n (name_of x) ≡ Less)
          (λ x is. subst (λ k. nat_cmp n k ≡ Less) (sym is) below.0) (f m) (named m))
          (over n ns below.1)

      pub flat_sorted : (ns : List ℕ) → Ascend ns → IsStrictlySortedBy cmp (flat_map f ns)
      unfolding IsStrictlySortedBy
      flat_sorted [] ascend = tt
      flat_sorted (n ∷ ns) ascend = sorted_append (f n) (flat_map f ns) (each n)
          (flat_sorted ns ascend.1)
          (below_by (λ x. name_of x ≡ n) (λ y. nat_cmp n (name_of y) ≡ Less)
          (λ x y is h. less x y (subst (λ k. nat_cmp k (name_of y) ≡ Less) (sym is) h))
          (f n) (flat_map f ns) (named n) (over n ns ascend.0))

-- pairs in the order of their names
module _ {T : Type 0} where
  abbrev pub pair_cmp : ℕ × T → ℕ × T → Ordering
  pair_cmp a b = nat_cmp a.0 b.0

  first_below : (n : ℕ) (pairs : List (ℕ × T)) → AllByRecursion (λ y. nat_cmp n y.0 ≡ Less) pairs
      → AllByRecursion (λ m. nat_cmp n m ≡ Less) (map (λ pair. pair.0) pairs)
  first_below n [] below = tt
  first_below n (pair ∷ rest) below = (below.0, first_below n rest below.1)

  pub by_name : (pairs : List (ℕ × T)) → IsStrictlySortedBy pair_cmp pairs → AscendByName pairs
  unfolding IsStrictlySortedBy
  by_name [] ascend = tt
  by_name (pair ∷ rest) ascend = (first_below pair.0 rest ascend.0, by_name rest ascend.1)

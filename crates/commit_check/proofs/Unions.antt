-- What stands in a union, and that it ascends.
use Rattle.std.proofs.Common.{◌≡◌, ℕ, ◌-◌, ◌≤◌, ◌⊎◌, inl, inr, ⊎_elim, List, [], ◌∷◌, ◌++◌, length, take, drop, Ordering, Less, Equal, Greater, nat_cmp, refl, sym, ap, ap₂, ◌∙◌, subst, append-nil, append_assoc}
use Rattle.std.proofs.Math.ListN.{drop_of_length-le}
use Rattle.std.proofs.lemmas.List.{take_rest}
use Rattle.std.specs.List.{AllByRecursion}
use Rattle.std.specs.Ordering.{match_ordering}
use Rattle.std.specs.List.Sorted.{IsStrictlySortedBy}
use Rattle.std.proofs.lemmas.Cmp.{nat_cmp_total}
use Rattle.std.proofs.lemmas.Map.Lookups.{exact_unsigned}
use Rattle.sorted_pairs.proofs.Cases.{below_greater}
use Rattle.gem_record.specs.Names.{Ascend}
use Rattle.commit_check.specs.Union.{union, merged_in}
use Rattle.commit_check.proofs.Members.{IsOneOf}

-- ---- the names of the first list

left_by : (x n y : ℕ) (ns : List ℕ) (rest : List ℕ → List ℕ) (ys more : List ℕ) (o : Ordering)
    → ((zs : List ℕ) → IsOneOf x ns → IsOneOf x (rest zs)) → IsOneOf x (n ∷ ns) → IsOneOf x more
    → IsOneOf x (match_ordering o (n ∷ rest (y ∷ ys)) (n ∷ rest ys) (y ∷ more))
left_by x n y ns rest ys more Less below there later = ⊎_elim inl (λ h. inr (below (y ∷ ys) h)) there
left_by x n y ns rest ys more Equal below there later = ⊎_elim inl (λ h. inr (below ys h)) there
left_by x n y ns rest ys more Greater below there later = inr later

left_in : (x n : ℕ) (ns : List ℕ) (rest : List ℕ → List ℕ)
    → ((zs : List ℕ) → IsOneOf x ns → IsOneOf x (rest zs)) → (ys : List ℕ) → IsOneOf x (n ∷ ns)
    → IsOneOf x (merged_in n ns rest ys)
left_in x n ns rest below [] there = there
left_in x n ns rest below (y ∷ ys) there =
    left_by x n y ns rest ys (merged_in n ns rest ys) (nat_cmp n y) below there (left_in x n ns rest below ys there)

pub in_left : (x : ℕ) (xs ys : List ℕ) → IsOneOf x xs → IsOneOf x (union xs ys)
in_left x [] ys none = absurd none
in_left x (n ∷ ns) ys there = left_in x n ns (union ns) (in_left x ns) ys there

-- ---- and of the second

right_by : (x n y : ℕ) (rest : List ℕ → List ℕ) (ys more : List ℕ) (o : Ordering) → nat_cmp n y ≡ o
    → ((zs : List ℕ) → IsOneOf x zs → IsOneOf x (rest zs)) → IsOneOf x (y ∷ ys)
    → (IsOneOf x ys → IsOneOf x more)
    → IsOneOf x (match_ordering o (n ∷ rest (y ∷ ys)) (n ∷ rest ys) (y ∷ more))
right_by x n y rest ys more Less is below there later = inr (below (y ∷ ys) there)
right_by x n y rest ys more Equal is below there later =
    ⊎_elim (λ same. inl (exact_unsigned n y is ∙ same)) (λ h. inr (below ys h)) there
right_by x n y rest ys more Greater is below there later = ⊎_elim inl (λ h. inr (later h)) there

right_in : (x n : ℕ) (ns : List ℕ) (rest : List ℕ → List ℕ)
    → ((zs : List ℕ) → IsOneOf x zs → IsOneOf x (rest zs)) → (ys : List ℕ) → IsOneOf x ys
    → IsOneOf x (merged_in n ns rest ys)
right_in x n ns rest below [] none = absurd none
right_in x n ns rest below (y ∷ ys) there = right_by x n y rest ys (merged_in n ns rest ys)
    (nat_cmp n y) refl below there (right_in x n ns rest below ys)

pub in_right : (x : ℕ) (xs ys : List ℕ) → IsOneOf x ys → IsOneOf x (union xs ys)
in_right x [] ys there = there
in_right x (n ∷ ns) ys there = right_in x n ns (union ns) (in_right x ns) ys there

-- ---- what holds of the names of both

module _ (P : ℕ → Type 0) where
  all_by : (n y : ℕ) (rest : List ℕ → List ℕ) (ys more : List ℕ) (o : Ordering)
      → ((zs : List ℕ) → AllByRecursion P zs → AllByRecursion P (rest zs)) → P n
      → AllByRecursion P (y ∷ ys) → AllByRecursion P more
      → AllByRecursion P (match_ordering o (n ∷ rest (y ∷ ys)) (n ∷ rest ys) (y ∷ more))
  all_by n y rest ys more Less below first others later = (first, below (y ∷ ys) others)
  all_by n y rest ys more Equal below first others later = (first, below ys others.1)
  all_by n y rest ys more Greater below first others later = (others.0, later)

  all_in : (n : ℕ) (ns : List ℕ) (rest : List ℕ → List ℕ)
      → ((zs : List ℕ) → AllByRecursion P zs → AllByRecursion P (rest zs)) → (ys : List ℕ)
      → AllByRecursion P (n ∷ ns) → AllByRecursion P ys → AllByRecursion P (merged_in n ns rest ys)
  all_in n ns rest below [] first others = first
  all_in n ns rest below (y ∷ ys) first others = all_by n y rest ys (merged_in n ns rest ys)
      (nat_cmp n y) below first.0 others (all_in n ns rest below ys first others.1)

  all_of : (xs ys : List ℕ) → AllByRecursion P xs → AllByRecursion P ys
      → AllByRecursion P (union xs ys)
  all_of [] ys first others = others
  all_of (n ∷ ns) ys first others =
      all_in n ns (union ns) (λ zs. all_of ns zs first.1) ys first others

-- ---- order

abbrev IsBelow : ℕ → List ℕ → Type 0
IsBelow n names = AllByRecursion (λ y. nat_cmp n y ≡ Less) names

lower : (n y : ℕ) (ys : List ℕ) → nat_cmp n y ≡ Less → IsBelow y ys → IsBelow n ys
lower n y [] h below = tt
lower n y (z ∷ zs) h below = (nat_cmp_total.trans n y z h below.0, lower n y zs h below.1)

joins : (n : ℕ) (ns ys : List ℕ) → Ascend (union ns ys) → IsBelow n ns → IsBelow n ys
    → Ascend (n ∷ union ns ys)
unfolding IsStrictlySortedBy
joins n ns ys ascend first others =
    (all_of (λ y. nat_cmp n y ≡ Less) ns ys first others, ascend)

head_of : (n : ℕ) (ns : List ℕ) → Ascend (n ∷ ns) → IsBelow n ns
unfolding IsStrictlySortedBy
head_of n ns ascend = ascend.0

tail_of : (n : ℕ) (ns : List ℕ) → Ascend (n ∷ ns) → Ascend ns
unfolding IsStrictlySortedBy
tail_of n ns ascend = ascend.1

puts_first : (y : ℕ) (more : List ℕ) → IsBelow y more → Ascend more → Ascend (y ∷ more)
unfolding IsStrictlySortedBy
puts_first y more below ascend = (below, ascend)

ascend_by : (n y : ℕ) (ns ys more : List ℕ) (o : Ordering) → nat_cmp n y ≡ o
    → ((zs : List ℕ) → Ascend zs → Ascend (union ns zs)) → Ascend (n ∷ ns) → Ascend (y ∷ ys)
    → Ascend more → (IsBelow y (n ∷ ns) → IsBelow y ys → IsBelow y more)
    → Ascend (match_ordering o (n ∷ union ns (y ∷ ys)) (n ∷ union ns ys) (y ∷ more))
ascend_by n y ns ys more Less is below first others later over = joins n ns (y ∷ ys)
    (below (y ∷ ys) others) (head_of n ns first) (is, lower n y ys is (head_of y ys others))
ascend_by n y ns ys more Equal is below first others later over = joins n ns ys
    (below ys (tail_of y ys others)) (head_of n ns first)
    (subst (λ k. IsBelow k ys) (sym (exact_unsigned n y is)) (head_of y ys others))
ascend_by n y ns ys more Greater is below first others later over =
    let up : nat_cmp y n ≡ Less = below_greater nat_cmp_total n y is in
    puts_first y more (over (up, lower y n ns up (head_of n ns first)) (head_of y ys others)) later

ascend_in : (n : ℕ) (ns : List ℕ) → ((zs : List ℕ) → Ascend zs → Ascend (union ns zs))
    → (ys : List ℕ) → Ascend (n ∷ ns) → Ascend ys → Ascend (merged_in n ns (union ns) ys)
ascend_in n ns below [] first others = first
ascend_in n ns below (y ∷ ys) first others =
    ascend_by n y ns ys (merged_in n ns (union ns) ys) (nat_cmp n y) refl below first others
    (ascend_in n ns below ys first (tail_of y ys others)) (all_of (λ z. nat_cmp y z ≡ Less) (n ∷ ns) ys)

pub union_ascends : (xs ys : List ℕ) → Ascend xs → Ascend ys → Ascend (union xs ys)
union_ascends [] ys first others = others
union_ascends (n ∷ ns) ys first others =
    ascend_in n ns (λ zs. union_ascends ns zs (tail_of n ns first)) ys first others

-- ---- the ends of the lists

one_of_two : (xs ys : List ℕ) → (xs ≡ []) ⊎ (ys ≡ []) → xs ++ ys ≡ union xs ys
one_of_two [] ys ended = refl
one_of_two (x ∷ xs) [] ended = append-nil (x ∷ xs)
one_of_two (x ∷ xs) (y ∷ ys) (inl none) = absurd (cc)
one_of_two (x ∷ xs) (y ∷ ys) (inr none) = absurd (cc)

pub union_ends : (left right : List ℕ) (i j : ℕ) (names first all : List ℕ)
    → (length left ≤ i) ⊎ (length right ≤ j)
    → first ≡ names ++ take (length left - i) (drop i left)
    → all ≡ first ++ take (length right - j) (drop j right)
    → names ++ union (drop i left) (drop j right) ≡ union left right → all ≡ union left right
union_ends left right i j names first all ended is_first is_all whole =
    let added : first ≡ names ++ drop i left
    = is_first ∙ ap (λ l. names ++ l) (take_rest left i) in
    let plain : all ≡ (names ++ drop i left) ++ drop j right
    = is_all ∙ ap₂ (λ a b. a ++ b) added (take_rest right j) in
    let none : (drop i left ≡ []) ⊎ (drop j right ≡ []) = ⊎_elim
    (λ h. inl (drop_of_length-le left h)) (λ h. inr (drop_of_length-le right h)) ended in
    plain ∙ append_assoc names (drop i left) (drop j right)
    ∙ ap (λ l. names ++ l) (one_of_two (drop i left) (drop j right) none) ∙ whole

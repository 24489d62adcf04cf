-- A bag stays one.
use Rattle.std.proofs.Common.{◌≡◌, ◌==◌, ℕ, ◌-◌, ◌<◌, ◌^◌, false, cond, List, [], ◌∷◌, Option, Some, None, option_map, Ordering, refl, sym, ap, ◌∙◌, subst, arith}
use Rattle.std.proofs.lemmas.Bool.Decides.{nat_tests}
use Rattle.std.proofs.lemmas.Option.{same_Some}
use Rattle.std.specs.Cmp.{IsTotalOrder, Equal-is}
use Rattle.std.specs.List.Sorted.{IsStrictlySortedBy}
use Rattle.std.specs.Ordering.{is_eq, ordering_reverse}
use Rattle.std.specs.declared.cmp.Ordering.TheVariants.{Less}
use Rattle.sorted_pairs.proofs.Below.{IsBelow, all_over}
use Rattle.sorted_pairs.proofs.Cases.{by_ordering, by_test}
use Rattle.rc_counter_bag.specs.Bag.{IsBag, one_more, one_less, with_one_more, with_one_less, updated}
use Rattle.rc_counter_bag.specs.declared.update.BagUpdate.{BagUpdate}
use Rattle.rc_counter_bag.specs.declared.update.BagUpdate.TheVariants.{Add, Remove}
use Rattle.rc_counter_bag.proofs.Edits.{with_one_more-past, with_one_more-here, with_one_more-before, with_one_less-here, with_one_less-past, less_here}

-- what an update left of the rest
pub kept_first : {T : Type 0} (pair : T × ℕ) (rest : Option (List (T × ℕ))) (less : List (T × ℕ)) → option_map (λ l. pair ∷ l) rest ≡ Some less → (l : List (T × ℕ)) × (rest ≡ Some l) × (less ≡ pair ∷ l)
kept_first pair None less e = absurd (cc)
kept_first pair (Some l) less e = (l, refl, cc)

-- one less than more than one
less_left : (n : ℕ) → 0 < n → (n == 1) ≡ false → 0 < n - 1
less_left n occurs more = grind (arith, nat_tests)

more_left : (n : ℕ) → 0 < n → (n == 1) ≡ false → 0 < one_less n
more_left n occurs more = by_test (n == 2 ^ 64 - 1)
    (λ h. subst (λ b. 0 < cond b n (n - 1)) (sym h) occurs)
    (λ h. subst (λ b. 0 < cond b n (n - 1)) (sym h) (less_left n occurs more))

module _ {T : Type 0} (cmp : T → T → Ordering) where
  pub first_below : (pair : T × ℕ) (rest : List (T × ℕ)) → IsBag cmp (pair ∷ rest) → IsBelow cmp pair.0 rest
  unfolding IsStrictlySortedBy
  first_below pair rest bag = bag.ascends.0

  pub rest_bag : (pair : T × ℕ) (rest : List (T × ℕ)) → IsBag cmp (pair ∷ rest) → IsBag cmp rest
  unfolding IsStrictlySortedBy
  rest_bag pair rest bag = record { ascends = bag.ascends.1; occur = bag.occur.1 }

  pub cons_bag : (pair : T × ℕ) (rest : List (T × ℕ)) → IsBelow cmp pair.0 rest → 0 < pair.1 → IsBag cmp rest → IsBag cmp (pair ∷ rest)
  unfolding IsStrictlySortedBy
  cons_bag pair rest below occurs bag = record { ascends = (below, bag.ascends); occur = (occurs, bag.occur) }

  pub empty_bag : IsBag cmp []
  unfolding IsStrictlySortedBy
  empty_bag = record { ascends = tt; occur = tt }

  module _ (total : IsTotalOrder cmp) (item : T) where
    -- below what stays, and below the item
    below-with_one_more : (x : T) (pairs : List (T × ℕ)) → cmp x item ≡ Less → IsBelow cmp x pairs → IsBelow cmp x (with_one_more cmp item pairs)
    below-with_one_more x [] h below = (h, tt)
    below-with_one_more x (pair ∷ rest) h below = by_ordering (cmp pair.0 item)
        (λ e. subst (IsBelow cmp x) (sym (with_one_more-past cmp item pair rest e)) (below.0, below-with_one_more x rest h below.1))
        (λ e. subst (IsBelow cmp x) (sym (with_one_more-here cmp item pair rest e)) below)
        (λ e. subst (IsBelow cmp x) (sym (with_one_more-before cmp item pair rest e)) (h, below))

    pub IsBag-with_one_more : (pairs : List (T × ℕ)) → IsBag cmp pairs → IsBag cmp (with_one_more cmp item pairs)
    IsBag-with_one_more [] bag = cons_bag (item, 1) [] tt (omega arith) bag
    IsBag-with_one_more (pair ∷ rest) bag = by_ordering (cmp pair.0 item)
        (λ e. subst (IsBag cmp) (sym (with_one_more-past cmp item pair rest e))
        (cons_bag pair (with_one_more cmp item rest) (below-with_one_more pair.0 rest e (first_below pair rest bag)) bag.occur.0 (IsBag-with_one_more rest (rest_bag pair rest bag))))
        (λ e. subst (IsBag cmp) (sym (with_one_more-here cmp item pair rest e))
        (cons_bag (pair.0, one_more pair.1) rest (first_below pair rest bag) (let occurs = bag.occur.0 in omega arith) (rest_bag pair rest bag)))
        (λ e. let below : cmp item pair.0 ≡ Less = total.antisymm item pair.0 ∙ ap ordering_reverse e in
        subst (IsBag cmp) (sym (with_one_more-before cmp item pair rest e))
        (cons_bag (item, 1) (pair ∷ rest) (below, all_over cmp total item pair.0 rest below (first_below pair rest bag)) (omega arith) bag))

  module _ (item : T) where
    below-with_one_less : (x : T) (pairs less : List (T × ℕ)) → IsBelow cmp x pairs → with_one_less cmp item pairs ≡ Some less → IsBelow cmp x less
    below-with_one_less x [] less below e = absurd (cc)
    below-with_one_less x (pair ∷ rest) less below e = by_test (is_eq (cmp pair.0 item))
        (λ h. let same : less_here cmp item pair rest ≡ less = same_Some _ _ (sym (with_one_less-here cmp item pair rest ((Equal-is (cmp pair.0 item)).0 h)) ∙ e) in
        by_test (pair.1 == 1)
        (λ one. subst (IsBelow cmp x) (sym (ap (λ b. cond b rest ((pair.0, one_less pair.1) ∷ rest)) one) ∙ same) below.1)
        (λ more. subst (IsBelow cmp x) (sym (ap (λ b. cond b rest ((pair.0, one_less pair.1) ∷ rest)) more) ∙ same) below))
        (λ h. let k = kept_first pair (with_one_less cmp item rest) less (sym (with_one_less-past cmp item pair rest h) ∙ e) in
        subst (IsBelow cmp x) (sym k.2) (below.0, below-with_one_less x rest k.0 below.1 k.1))

    pub IsBag-with_one_less : (pairs less : List (T × ℕ)) → IsBag cmp pairs → with_one_less cmp item pairs ≡ Some less → IsBag cmp less
    IsBag-with_one_less [] less bag e = absurd (cc)
    IsBag-with_one_less (pair ∷ rest) less bag e = by_test (is_eq (cmp pair.0 item))
        (λ h. let same : less_here cmp item pair rest ≡ less = same_Some _ _ (sym (with_one_less-here cmp item pair rest ((Equal-is (cmp pair.0 item)).0 h)) ∙ e) in
        by_test (pair.1 == 1)
        (λ one. subst (IsBag cmp) (sym (ap (λ b. cond b rest ((pair.0, one_less pair.1) ∷ rest)) one) ∙ same) (rest_bag pair rest bag))
        (λ more. subst (IsBag cmp) (sym (ap (λ b. cond b rest ((pair.0, one_less pair.1) ∷ rest)) more) ∙ same)
        (cons_bag (pair.0, one_less pair.1) rest (first_below pair rest bag) (more_left pair.1 bag.occur.0 more) (rest_bag pair rest bag))))
        (λ h. let k = kept_first pair (with_one_less cmp item rest) less (sym (with_one_less-past cmp item pair rest h) ∙ e) in
        subst (IsBag cmp) (sym k.2) (cons_bag pair k.0 (below-with_one_less pair.0 rest k.0 (first_below pair rest bag) k.1) bag.occur.0 (IsBag-with_one_less rest k.0 (rest_bag pair rest bag) k.1)))

pub IsBag-updated : {T : Type 0} (cmp : T → T → Ordering) (total : IsTotalOrder cmp) (update : BagUpdate T) (pairs after : List (T × ℕ)) → IsBag cmp pairs → updated cmp update pairs ≡ Some after → IsBag cmp after
IsBag-updated cmp total (Add item) pairs after bag e = subst (IsBag cmp) (same_Some _ after e) (IsBag-with_one_more cmp total item pairs bag)
IsBag-updated cmp total (Remove item) pairs after bag e = IsBag-with_one_less cmp item pairs after bag e

-- Adds in either order.
use Rattle.std.proofs.Common.{◌≡◌, ℕ, ◌+◌, List, [], ◌∷◌, map, Ok, Ordering, refl, sym, ap, ◌∙◌, subst}
use Rattle.std.specs.Cmp.{IsTotalOrder}
use Rattle.std.specs.declared.cmp.Ordering.TheVariants.{Less, Equal, Greater}
use Rattle.rc_counter_bag.specs.Bag.{one_more, with_one_more, replayed}
use Rattle.rc_counter_bag.specs.Turns.{merged_after, merged_twice}
use Rattle.rc_counter_bag.specs.declared.update.BagUpdate.TheVariants.{Add}
use Rattle.rc_counter_bag.proofs.Edits.{with_one_more-past, with_one_more-here, with_one_more-before}
use Rattle.sorted_pairs.proofs.Cases.{by_ordering, above_lesser, below_greater}

module _ {T : Type 0} (cmp : T → T → Ordering) (total : IsTotalOrder cmp) where
  -- the lesser item and the greater one
  in_order : (x y : T) (pairs : List (T × ℕ)) → cmp x y ≡ Less → with_one_more cmp y (with_one_more cmp x pairs) ≡ with_one_more cmp x (with_one_more cmp y pairs)
  in_order x y [] less = with_one_more-past cmp y (x, 1) [] less ∙ sym (with_one_more-before cmp x (y, 1) [] (above_lesser total x y less))
  in_order x y (pair ∷ rest) less = by_ordering (cmp pair.0 y)
      (λ past. by_ordering (cmp pair.0 x)
      (λ e. ap (with_one_more cmp y) (with_one_more-past cmp x pair rest e) ∙ with_one_more-past cmp y pair (with_one_more cmp x rest) past ∙ ap (λ l. pair ∷ l) (in_order x y rest less)
      ∙ sym (ap (with_one_more cmp x) (with_one_more-past cmp y pair rest past) ∙ with_one_more-past cmp x pair (with_one_more cmp y rest) e))
      (λ e. ap (with_one_more cmp y) (with_one_more-here cmp x pair rest e) ∙ with_one_more-past cmp y (pair.0, one_more pair.1) rest past
      ∙ sym (ap (with_one_more cmp x) (with_one_more-past cmp y pair rest past) ∙ with_one_more-here cmp x pair (with_one_more cmp y rest) e))
      (λ e. ap (with_one_more cmp y) (with_one_more-before cmp x pair rest e) ∙ with_one_more-past cmp y (x, 1) (pair ∷ rest) less ∙ ap (λ l. (x, 1) ∷ l) (with_one_more-past cmp y pair rest past)
      ∙ sym (ap (with_one_more cmp x) (with_one_more-past cmp y pair rest past) ∙ with_one_more-before cmp x pair (with_one_more cmp y rest) e)))
      (λ here. let e : cmp pair.0 x ≡ Greater = total.congr pair.0 y x here ∙ above_lesser total x y less in
      ap (with_one_more cmp y) (with_one_more-before cmp x pair rest e) ∙ with_one_more-past cmp y (x, 1) (pair ∷ rest) less ∙ ap (λ l. (x, 1) ∷ l) (with_one_more-here cmp y pair rest here)
      ∙ sym (ap (with_one_more cmp x) (with_one_more-here cmp y pair rest here) ∙ with_one_more-before cmp x (pair.0, one_more pair.1) rest e))
      (λ before. let e : cmp pair.0 x ≡ Greater = above_lesser total x pair.0 (total.trans x y pair.0 less (below_greater total pair.0 y before)) in
      ap (with_one_more cmp y) (with_one_more-before cmp x pair rest e) ∙ with_one_more-past cmp y (x, 1) (pair ∷ rest) less ∙ ap (λ l. (x, 1) ∷ l) (with_one_more-before cmp y pair rest before)
      ∙ sym (ap (with_one_more cmp x) (with_one_more-before cmp y pair rest before) ∙ with_one_more-before cmp x (y, 1) (pair ∷ rest) (above_lesser total x y less)))

  pub added_twice : (pairs : List (T × ℕ)) (x y : T) → (cmp x y ≡ Equal → x ≡ y) → with_one_more cmp y (with_one_more cmp x pairs) ≡ with_one_more cmp x (with_one_more cmp y pairs)
  added_twice pairs x y tells = by_ordering (cmp x y)
      (λ less. in_order x y pairs less)
      (λ tied. subst (λ w. with_one_more cmp w (with_one_more cmp x pairs) ≡ with_one_more cmp x (with_one_more cmp w pairs)) (tells tied) refl)
      (λ more. sym (in_order y x pairs (below_greater total x y more)))

  -- ---- many adds

  pub all_added : List T → List (T × ℕ) → List (T × ℕ)
  all_added [] pairs = pairs
  all_added (x ∷ xs) pairs = all_added xs (with_one_more cmp x pairs)

  replayed-adds : (at : ℕ) (xs : List T) (pairs : List (T × ℕ)) → replayed cmp at (map Add xs) pairs ≡ Ok (all_added xs pairs)
  unfolding all_added
  replayed-adds at [] pairs = refl
  replayed-adds at (x ∷ xs) pairs = replayed-adds (at + 1) xs (with_one_more cmp x pairs)

  pub merged_twice-adds : (view place : List (T × ℕ)) (xs ys : List T) → merged_twice cmp view place (map Add xs) (map Add ys) ≡ Ok (all_added ys (all_added xs place))
  merged_twice-adds view place xs ys = ap (λ r. merged_after cmp r view (map Add ys)) (replayed-adds 0 xs place) ∙ replayed-adds 0 ys (all_added xs place)

  module _ (tells : (x y : T) → cmp x y ≡ Equal → x ≡ y) where
    one_first : (x : T) (ys : List T) (pairs : List (T × ℕ)) → all_added ys (with_one_more cmp x pairs) ≡ with_one_more cmp x (all_added ys pairs)
    unfolding all_added
    one_first x [] pairs = refl
    one_first x (y ∷ ys) pairs = ap (all_added ys) (added_twice pairs x y (tells x y)) ∙ one_first x ys (with_one_more cmp y pairs)

    all_first : (xs ys : List T) (pairs : List (T × ℕ)) → all_added ys (all_added xs pairs) ≡ all_added xs (all_added ys pairs)
    unfolding all_added
    all_first [] ys pairs = refl
    all_first (x ∷ xs) ys pairs = all_first xs ys (with_one_more cmp x pairs) ∙ ap (all_added xs) (one_first x ys pairs)

    pub merges_commute : (view place : List (T × ℕ)) (xs ys : List T) → merged_twice cmp view place (map Add xs) (map Add ys) ≡ merged_twice cmp view place (map Add ys) (map Add xs)
    merges_commute view place xs ys = merged_twice-adds view place xs ys ∙ ap Ok (all_first xs ys place) ∙ sym (merged_twice-adds view place ys xs)

-- What an update does to the size of a bag.
use Rattle.std.proofs.Common.{◌≡◌, ◌==◌, ℕ, ◌+◌, ◌-◌, ◌<◌, ◌^◌, min, true, false, cond, List, [], ◌∷◌, sum_by, Option, Some, None, option_map, Ordering, refl, sym, ap, ◌∙◌, subst, arith}
use Rattle.std.proofs.lemmas.Bool.Decides.{nat_tests}
use Rattle.std.proofs.lemmas.List.Sums.{sum_by-cons}
use Rattle.std.proofs.lemmas.Option.{same_Some}
use Rattle.std.specs.Cmp.{Equal-is}
use Rattle.std.specs.Ordering.{is_eq}
use Rattle.sorted_pairs.proofs.Cases.{by_ordering, by_test}
use Rattle.rc_counter_bag.specs.Bag.{IsBag, one_more, one_less, size, with_one_more, with_one_less}
use Rattle.rc_counter_bag.proofs.Edits.{with_one_more-past, with_one_more-here, with_one_more-before, with_one_less-here, with_one_less-past, less_here}
use Rattle.rc_counter_bag.proofs.Kept.{kept_first, rest_bag}

-- the number of occurrences, without an end
abbrev sum : {T : Type 0} → List (T × ℕ) → ℕ
sum pairs = sum_by (λ pair. pair.1) pairs

sum-cons : {T : Type 0} (pair : T × ℕ) (rest : List (T × ℕ)) → sum (pair ∷ rest) ≡ pair.1 + sum rest
sum-cons pair rest = sum_by-cons (λ pair. pair.1) pair rest

-- one less than a number of occurrences that isn't at its end
one_below : (n : ℕ) → 0 < n → n < 2 ^ 64 - 1 → one_less n + 1 ≡ n
one_below n occurs below = by_test (n == 2 ^ 64 - 1)
    (λ h. absurd (grind (arith, nat_tests)))
    (λ h. ap (λ b. cond b n (n - 1) + 1) h ∙ omega arith)

below_end : (n : ℕ) → (min n (2 ^ 64 - 1) == 2 ^ 64 - 1) ≡ false → n < 2 ^ 64 - 1
below_end n h = grind (arith, nat_tests)

module _ {T : Type 0} (cmp : T → T → Ordering) (item : T) where
  pub size-with_one_more : (pairs : List (T × ℕ)) → size (with_one_more cmp item pairs) ≡ min (size pairs + 1) (2 ^ 64 - 1)
  size-with_one_more [] = refl
  size-with_one_more (pair ∷ rest) = by_ordering (cmp pair.0 item)
      (λ e. ap size (with_one_more-past cmp item pair rest e) ∙ (let more = size-with_one_more rest in omega (arith, more, sum-cons pair (with_one_more cmp item rest), sum-cons pair rest)))
      (λ e. ap size (with_one_more-here cmp item pair rest e) ∙ omega (arith, sum-cons (pair.0, one_more pair.1) rest, sum-cons pair rest))
      (λ e. ap size (with_one_more-before cmp item pair rest e) ∙ omega (arith, sum-cons (item, 1) (pair ∷ rest)))

  -- the first pair has one less, or is gone
  sum-less_here : (pair : T × ℕ) (rest : List (T × ℕ)) → 0 < pair.1 → pair.1 < 2 ^ 64 - 1 → sum (less_here cmp item pair rest) + 1 ≡ sum (pair ∷ rest)
  sum-less_here pair rest occurs below = by_test (pair.1 == 1)
      (λ one. ap (λ b. sum (cond b rest ((pair.0, one_less pair.1) ∷ rest)) + 1) one ∙ (let last : pair.1 ≡ 1 = grind (arith, nat_tests) in omega (arith, last, sum-cons pair rest)))
      (λ more. ap (λ b. sum (cond b rest ((pair.0, one_less pair.1) ∷ rest)) + 1) more
      ∙ omega (arith, one_below pair.1 occurs below, sum-cons (pair.0, one_less pair.1) rest, sum-cons pair rest))

  sum-with_one_less : (pairs less : List (T × ℕ)) → IsBag cmp pairs → sum pairs < 2 ^ 64 - 1 → with_one_less cmp item pairs ≡ Some less → sum less + 1 ≡ sum pairs
  sum-with_one_less [] less bag below e = absurd (cc)
  sum-with_one_less (pair ∷ rest) less bag below e =
      let whole = sum-cons pair rest in
      by_test (is_eq (cmp pair.0 item))
      (λ h. let same : less_here cmp item pair rest ≡ less = same_Some _ _ (sym (with_one_less-here cmp item pair rest ((Equal-is (cmp pair.0 item)).0 h)) ∙ e) in
      ap (λ l. sum l + 1) (sym same) ∙ sum-less_here pair rest bag.occur.0 (omega (arith, whole, below)))
      (λ h. let k = kept_first pair (with_one_less cmp item rest) less (sym (with_one_less-past cmp item pair rest h) ∙ e) in
      ap (λ l. sum l + 1) k.2 ∙ (let rec = sum-with_one_less rest k.0 (rest_bag cmp pair rest bag) (omega (arith, whole, below)) k.1 in omega (arith, rec, whole, sum-cons pair k.0)))

  pub size-with_one_less : (pairs less : List (T × ℕ)) → IsBag cmp pairs → with_one_less cmp item pairs ≡ Some less → cond (size pairs == 2 ^ 64 - 1) (size less) (size pairs - 1) ≡ size less
  size-with_one_less pairs less bag e = by_test (size pairs == 2 ^ 64 - 1)
      (λ h. ap (λ b. cond b (size less) (size pairs - 1)) h)
      (λ h. ap (λ b. cond b (size less) (size pairs - 1)) h
      ∙ (let below : sum pairs < 2 ^ 64 - 1 = below_end (sum pairs) h in omega (arith, below, sum-with_one_less pairs less bag below e)))

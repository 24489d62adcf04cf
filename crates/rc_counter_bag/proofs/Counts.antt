-- What an update does to the occurrences of each item.
use Rattle.std.proofs.Common.{◌≡◌, ◌==◌, ℕ, Bool, true, false, cond, List, [], ◌∷◌, Option, Some, None, option_map, Ordering, refl, sym, ap, ◌∙◌, arith}
use Rattle.std.proofs.lemmas.Option.{same_Some, none-some}
use borrow.Author.Tests.{eqb-true}
use Rattle.std.specs.Cmp.{IsTotalOrder, Equal-is}
use Rattle.std.specs.Ordering.{is_eq, ordering_reverse}
use Rattle.std.specs.declared.cmp.Ordering.TheVariants.{Less, Equal}
use Rattle.rc_counter_bag.specs.Bag.{IsBag, one_more, one_less, count, with_one_more, with_one_less}
use Rattle.rc_counter_bag.proofs.Edits.{count-here, count-past, with_one_more-past, with_one_more-here, with_one_more-before, with_one_less-here, with_one_less-past, less_here}
use Rattle.rc_counter_bag.proofs.Kept.{kept_first, IsBag-with_one_more, first_below, rest_bag}
use Rattle.sorted_pairs.proofs.Below.{IsBelow}
use Rattle.sorted_pairs.proofs.Cases.{by_ordering, by_test, tie_flip}

-- nothing was left of the rest
none_left : {T : Type 0} (pair : T × ℕ) (rest : Option (List (T × ℕ))) → option_map (λ l. pair ∷ l) rest ≡ None → rest ≡ None
none_left pair None e = refl
none_left pair (Some l) e = absurd (cc)

raised_twice : (a b : Bool) (n : ℕ) → cond b (one_more (cond a (one_more n) n)) (cond a (one_more n) n) ≡ cond a (one_more (cond b (one_more n) n)) (cond b (one_more n) n)
raised_twice true true n = refl
raised_twice true false n = refl
raised_twice false true n = refl
raised_twice false false n = refl

module _ {T : Type 0} (cmp : T → T → Ordering) (total : IsTotalOrder cmp) (z : T) where
  tie : (x : T) → is_eq (cmp x z) ≡ true → cmp x z ≡ Equal
  tie x h = (Equal-is (cmp x z)).0 h

  -- below all the items, and tied with z: z isn't there
  count-below : (x : T) (pairs : List (T × ℕ)) → IsBelow cmp x pairs → cmp x z ≡ Equal → count cmp z pairs ≡ 0
  count-below x [] below e = refl
  count-below x (pair ∷ rest) below e =
      let differ : is_eq (cmp pair.0 z) ≡ false = tie_flip total pair.0 z ∙ ap is_eq (sym (total.congr x z pair.0 e) ∙ below.0) in
      count-past cmp z pair rest differ ∙ count-below x rest below.1 e

  count-over : (x y : T) (pairs : List (T × ℕ)) → cmp x y ≡ Less → IsBelow cmp y pairs → cmp x z ≡ Equal → count cmp z pairs ≡ 0
  count-over x y [] h below e = refl
  count-over x y (pair ∷ rest) h below e =
      let differ : is_eq (cmp pair.0 z) ≡ false = tie_flip total pair.0 z ∙ ap is_eq (sym (total.congr x z pair.0 e) ∙ total.trans x y pair.0 h below.0) in
      count-past cmp z pair rest differ ∙ count-over x y rest h below.1 e

  abbrev counted : T → ℕ → ℕ
  counted x n = cond (is_eq (cmp x z)) (one_more n) n

  counted-tied : (x : T) (n : ℕ) → is_eq (cmp x z) ≡ true → counted x n ≡ one_more n
  counted-tied x n h = ap (λ b. cond b (one_more n) n) h

  counted-apart : (x : T) (n : ℕ) → is_eq (cmp x z) ≡ false → counted x n ≡ n
  counted-apart x n h = ap (λ b. cond b (one_more n) n) h

  pub count-with_one_more : (x : T) (pairs : List (T × ℕ)) → IsBag cmp pairs → count cmp z (with_one_more cmp x pairs) ≡ counted x (count cmp z pairs)
  count-with_one_more x [] bag = by_test (is_eq (cmp x z))
      (λ h. ap (λ b. cond b 1 0) h ∙ sym (counted-tied x 0 h))
      (λ h. ap (λ b. cond b 1 0) h ∙ sym (counted-apart x 0 h))
  count-with_one_more x (pair ∷ rest) bag = by_ordering (cmp pair.0 x)
      (λ e. ap (count cmp z) (with_one_more-past cmp x pair rest e) ∙ by_test (is_eq (cmp pair.0 z))
      (λ h. let apart : is_eq (cmp x z) ≡ false = tie_flip total x z ∙ ap is_eq (sym (total.congr pair.0 z x (tie pair.0 h)) ∙ e) in
      count-here cmp z pair (with_one_more cmp x rest) (tie pair.0 h) ∙ sym (counted-apart x (count cmp z (pair ∷ rest)) apart ∙ count-here cmp z pair rest (tie pair.0 h)))
      (λ h. count-past cmp z pair (with_one_more cmp x rest) h ∙ count-with_one_more x rest (rest_bag cmp pair rest bag) ∙ ap (counted x) (sym (count-past cmp z pair rest h))))
      (λ e. ap (count cmp z) (with_one_more-here cmp x pair rest e) ∙ by_test (is_eq (cmp pair.0 z))
      (λ h. let tied : is_eq (cmp x z) ≡ true = ap is_eq (sym (total.congr pair.0 x z e)) ∙ h in
      count-here cmp z (pair.0, one_more pair.1) rest (tie pair.0 h) ∙ sym (counted-tied x (count cmp z (pair ∷ rest)) tied ∙ ap one_more (count-here cmp z pair rest (tie pair.0 h))))
      (λ h. let apart : is_eq (cmp x z) ≡ false = ap is_eq (sym (total.congr pair.0 x z e)) ∙ h in
      count-past cmp z (pair.0, one_more pair.1) rest h ∙ sym (counted-apart x (count cmp z (pair ∷ rest)) apart ∙ count-past cmp z pair rest h)))
      (λ e. ap (count cmp z) (with_one_more-before cmp x pair rest e) ∙ by_test (is_eq (cmp x z))
      (λ h. let below : cmp x pair.0 ≡ Less = total.antisymm x pair.0 ∙ ap ordering_reverse e in
      let none : count cmp z (pair ∷ rest) ≡ 0 = count-past cmp z pair rest (tie_flip total pair.0 z ∙ ap is_eq (sym (total.congr x z pair.0 (tie x h)) ∙ below)) ∙ count-over x pair.0 rest below (first_below cmp pair rest bag) (tie x h) in
      count-here cmp z (x, 1) (pair ∷ rest) (tie x h) ∙ sym (counted-tied x (count cmp z (pair ∷ rest)) h ∙ ap one_more none))
      (λ h. count-past cmp z (x, 1) (pair ∷ rest) h ∙ sym (counted-apart x (count cmp z (pair ∷ rest)) h)))

  abbrev lessened : T → ℕ → ℕ
  lessened x n = cond (is_eq (cmp x z)) (one_less n) n

  lessened-tied : (x : T) (n : ℕ) → is_eq (cmp x z) ≡ true → lessened x n ≡ one_less n
  lessened-tied x n h = ap (λ b. cond b (one_less n) n) h

  lessened-apart : (x : T) (n : ℕ) → is_eq (cmp x z) ≡ false → lessened x n ≡ n
  lessened-apart x n h = ap (λ b. cond b (one_less n) n) h

  -- one less of the first pair, whose item is tied with x
  count-less_here : (x : T) (pair : T × ℕ) (rest : List (T × ℕ)) → cmp pair.0 x ≡ Equal → IsBag cmp (pair ∷ rest) → count cmp z (less_here cmp x pair rest) ≡ lessened x (count cmp z (pair ∷ rest))
  count-less_here x pair rest e bag = by_test (is_eq (cmp pair.0 z))
      (λ h. let tied : is_eq (cmp x z) ≡ true = ap is_eq (sym (total.congr pair.0 x z e)) ∙ h in
      let after : lessened x (count cmp z (pair ∷ rest)) ≡ one_less pair.1 = lessened-tied x (count cmp z (pair ∷ rest)) tied ∙ ap one_less (count-here cmp z pair rest (tie pair.0 h)) in
      by_test (pair.1 == 1)
      (λ one. ap (λ b. count cmp z (cond b rest ((pair.0, one_less pair.1) ∷ rest))) one ∙ count-below pair.0 rest (first_below cmp pair rest bag) (tie pair.0 h) ∙ sym (after ∙ ap one_less (eqb-true pair.1 1 one)))
      (λ more. ap (λ b. count cmp z (cond b rest ((pair.0, one_less pair.1) ∷ rest))) more ∙ count-here cmp z (pair.0, one_less pair.1) rest (tie pair.0 h) ∙ sym after))
      (λ h. let apart : is_eq (cmp x z) ≡ false = ap is_eq (sym (total.congr pair.0 x z e)) ∙ h in
      let after : lessened x (count cmp z (pair ∷ rest)) ≡ count cmp z rest = lessened-apart x (count cmp z (pair ∷ rest)) apart ∙ count-past cmp z pair rest h in
      by_test (pair.1 == 1)
      (λ one. ap (λ b. count cmp z (cond b rest ((pair.0, one_less pair.1) ∷ rest))) one ∙ sym after)
      (λ more. ap (λ b. count cmp z (cond b rest ((pair.0, one_less pair.1) ∷ rest))) more ∙ count-past cmp z (pair.0, one_less pair.1) rest h ∙ sym after))

  pub count-with_one_less : (x : T) (pairs less : List (T × ℕ)) → IsBag cmp pairs → with_one_less cmp x pairs ≡ Some less → count cmp z less ≡ lessened x (count cmp z pairs)
  count-with_one_less x [] less bag e = absurd (cc)
  count-with_one_less x (pair ∷ rest) less bag e = by_test (is_eq (cmp pair.0 x))
      (λ h. let tied : cmp pair.0 x ≡ Equal = (Equal-is (cmp pair.0 x)).0 h in
      let same : less_here cmp x pair rest ≡ less = same_Some _ _ (sym (with_one_less-here cmp x pair rest tied) ∙ e) in
      ap (count cmp z) (sym same) ∙ count-less_here x pair rest tied bag)
      (λ h. let k = kept_first pair (with_one_less cmp x rest) less (sym (with_one_less-past cmp x pair rest h) ∙ e) in
      ap (count cmp z) k.2 ∙ by_test (is_eq (cmp pair.0 z))
      (λ t. let apart : is_eq (cmp x z) ≡ false = tie_flip total x z ∙ ap is_eq (sym (total.congr pair.0 z x (tie pair.0 t))) ∙ h in
      count-here cmp z pair k.0 (tie pair.0 t) ∙ sym (lessened-apart x (count cmp z (pair ∷ rest)) apart ∙ count-here cmp z pair rest (tie pair.0 t)))
      (λ t. count-past cmp z pair k.0 t ∙ count-with_one_less x rest k.0 (rest_bag cmp pair rest bag) k.1 ∙ ap (lessened x) (sym (count-past cmp z pair rest t))))

-- ---- where a removal is refused

module _ {T : Type 0} (cmp : T → T → Ordering) (x : T) where
  -- no occurrence, also in a list that is no bag
  pub count-refused : (pairs : List (T × ℕ)) → with_one_less cmp x pairs ≡ None → count cmp x pairs ≡ 0
  count-refused [] e = refl
  count-refused (pair ∷ rest) e = by_test (is_eq (cmp pair.0 x))
      (λ h. absurd (none-some _ (sym e ∙ with_one_less-here cmp x pair rest ((Equal-is (cmp pair.0 x)).0 h))))
      (λ h. count-past cmp x pair rest h ∙ count-refused rest (none_left pair (with_one_less cmp x rest) (sym (with_one_less-past cmp x pair rest h) ∙ e)))

  pub refused-from_count : (pairs : List (T × ℕ)) → IsBag cmp pairs → count cmp x pairs ≡ 0 → with_one_less cmp x pairs ≡ None
  refused-from_count [] bag e = refl
  refused-from_count (pair ∷ rest) bag e = by_test (is_eq (cmp pair.0 x))
      (λ h. let here = count-here cmp x pair rest ((Equal-is (cmp pair.0 x)).0 h) in let occurs = bag.occur.0 in absurd (omega arith))
      (λ h. with_one_less-past cmp x pair rest h ∙ ap (option_map (λ l. pair ∷ l)) (refused-from_count rest (rest_bag cmp pair rest bag) (sym (count-past cmp x pair rest h) ∙ e)))

pub count-added_twice : {T : Type 0} (cmp : T → T → Ordering) (total : IsTotalOrder cmp) (z x y : T) (pairs : List (T × ℕ)) → IsBag cmp pairs → count cmp z (with_one_more cmp y (with_one_more cmp x pairs)) ≡ count cmp z (with_one_more cmp x (with_one_more cmp y pairs))
count-added_twice cmp total z x y pairs bag =
    let one = count-with_one_more cmp total z y (with_one_more cmp x pairs) (IsBag-with_one_more cmp total x pairs bag) ∙ ap (λ n. cond (is_eq (cmp y z)) (one_more n) n) (count-with_one_more cmp total z x pairs bag) in
    let other = count-with_one_more cmp total z x (with_one_more cmp y pairs) (IsBag-with_one_more cmp total y pairs bag) ∙ ap (λ n. cond (is_eq (cmp x z)) (one_more n) n) (count-with_one_more cmp total z y pairs bag) in
    one ∙ raised_twice (is_eq (cmp x z)) (is_eq (cmp y z)) (count cmp z pairs) ∙ sym other

-- What holds of each pair or item of an object holds of each after an update or a merge.
use Rattle.std.proofs.Common.{◌≡◌, ◌==◌, ℕ, false, cond, List, [], ◌∷◌, Some, Ordering, sym, ap, ◌∙◌, subst}
use Rattle.std.specs.List.{All}
use Rattle.std.specs.Ordering.{is_eq}
use Rattle.std.specs.Cmp.{Equal-is}
use Rattle.std.proofs.lemmas.List.Elements.{All-cons, All-head, All-tail}
use Rattle.std.proofs.lemmas.Option.{same_Some}
use Rattle.sorted_pairs.proofs.Cases.{by_ordering, by_test}
use Rattle.gem_object.specs.rc_counter_bag.Bag as bags
use Rattle.gem_object.proofs.rc_counter_bag_lemmas.Edits.{with_one_more-past, with_one_more-here, with_one_more-before, with_one_less-here, with_one_less-past, less_here}
use Rattle.gem_object.proofs.rc_counter_bag_lemmas.Kept.{kept_first}
use Rattle.gem_object.specs.rc_dict.Dict as dicts
use Rattle.gem_object.proofs.rc_dict_lemmas.Edits.{put-past, put-here, put-before, without-here, without-past}

module _ {T : Type 0} (cmp : T → T → Ordering) (item : T) (P : T × ℕ → Type 0) where
  pub each_more : P (item, 1)
      → ((pair : T × ℕ) → P pair → P (pair.0, bags.one_more pair.1))
      → (pairs : List (T × ℕ)) → All P pairs → All P (bags.with_one_more cmp item pairs)
  each_more new more [] all = All-cons P (item, 1) [] new all
  each_more new more (pair ∷ rest) all =
      let first = All-head P pair rest all in
      let others = All-tail P pair rest all in
      by_ordering (cmp pair.0 item)
      (λ e. subst (All P) (sym (with_one_more-past cmp item pair rest e))
      (All-cons P pair (bags.with_one_more cmp item rest) first (each_more new more rest others)))
      (λ e. subst (All P) (sym (with_one_more-here cmp item pair rest e))
      (All-cons P (pair.0, bags.one_more pair.1) rest (more pair first) others))
      (λ e. subst (All P) (sym (with_one_more-before cmp item pair rest e))
      (All-cons P (item, 1) (pair ∷ rest) new all))

  pub each_less : ((pair : T × ℕ) → P pair → (pair.1 == 1) ≡ false → P (pair.0, bags.one_less pair.1))
      → (pairs less : List (T × ℕ)) → All P pairs → bags.with_one_less cmp item pairs ≡ Some less
      → All P less
  each_less fewer [] less all e = absurd (cc)
  each_less fewer (pair ∷ rest) less all e =
      let first = All-head P pair rest all in
      let others = All-tail P pair rest all in
      by_test (is_eq (cmp pair.0 item))
      (λ h. let same : less_here cmp item pair rest ≡ less = same_Some _ _ (sym (with_one_less-here cmp item pair rest ((Equal-is (cmp pair.0 item)).0 h)) ∙ e) in
      by_test (pair.1 == 1)
      (λ one. subst (All P) (sym (ap (λ b. cond b rest ((pair.0, bags.one_less pair.1) ∷ rest)) one) ∙ same) others)
      (λ many. subst (All P) (sym (ap (λ b. cond b rest ((pair.0, bags.one_less pair.1) ∷ rest)) many) ∙ same)
      (All-cons P (pair.0, bags.one_less pair.1) rest (fewer pair first many) others)))
      (λ h. let k = kept_first pair (bags.with_one_less cmp item rest) less (sym (with_one_less-past cmp item pair rest h) ∙ e) in
      subst (All P) (sym k.2) (All-cons P pair k.0 first (each_less fewer rest k.0 others k.1)))

module _ {K T : Type 0} (cmp : K → K → Ordering) (key : K) (P : K × T → Type 0) where
  pub each_put : (value : T) → P (key, value) → (pairs : List (K × T)) → All P pairs
      → All P (dicts.put cmp key value pairs)
  each_put value new [] all = All-cons P (key, value) [] new all
  each_put value new (pair ∷ rest) all =
      let first = All-head P pair rest all in
      let others = All-tail P pair rest all in
      by_ordering (cmp pair.0 key)
      (λ e. subst (All P) (sym (put-past cmp key value pair rest e))
      (All-cons P pair (dicts.put cmp key value rest) first (each_put value new rest others)))
      (λ e. subst (All P) (sym (put-here cmp key value pair rest e))
      (All-cons P (key, value) rest new others))
      (λ e. subst (All P) (sym (put-before cmp key value pair rest e))
      (All-cons P (key, value) (pair ∷ rest) new all))

  pub each_without : (pairs : List (K × T)) → All P pairs → All P (dicts.without cmp key pairs)
  each_without [] all = all
  each_without (pair ∷ rest) all =
      let first = All-head P pair rest all in
      let others = All-tail P pair rest all in
      by_test (is_eq (cmp pair.0 key))
      (λ h. subst (All P) (sym (without-here cmp key pair rest h)) others)
      (λ h. subst (All P) (sym (without-past cmp key pair rest h))
      (All-cons P pair (dicts.without cmp key rest) first (each_without rest others)))

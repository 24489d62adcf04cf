-- A dictionary stays one.
use Rattle.std.proofs.Common.{◌≡◌, List, [], ◌∷◌, Ordering, sym, ap, ◌∙◌, subst}
use Rattle.std.specs.Cmp.{IsTotalOrder}
use Rattle.std.specs.List.Sorted.{IsStrictlySortedBy}
use Rattle.std.specs.Ordering.{is_eq, ordering_reverse}
use Rattle.std.specs.declared.cmp.Ordering.TheVariants.{Less}
use Rattle.sorted_pairs.proofs.Below.{IsBelow, all_over, all_tied}
use Rattle.sorted_pairs.proofs.Cases.{by_ordering, by_test}
use Rattle.rc_dict.specs.Dict.{IsDict, put, without, settled, all_settled}
use Rattle.rc_dict.specs.declared.update.DictUpdate.{DictUpdate}
use Rattle.rc_dict.specs.declared.update.DictUpdate.TheVariants.{Put, Remove}
use Rattle.rc_dict.proofs.Edits.{put-past, put-here, put-before, without-here, without-past}

module _ {K T : Type 0} (cmp : K → K → Ordering) where
  pub first_below : (pair : K × T) (rest : List (K × T)) → IsDict cmp (pair ∷ rest) → IsBelow cmp pair.0 rest
  unfolding IsStrictlySortedBy
  first_below pair rest dict = dict.0

  pub rest_dict : (pair : K × T) (rest : List (K × T)) → IsDict cmp (pair ∷ rest) → IsDict cmp rest
  unfolding IsStrictlySortedBy
  rest_dict pair rest dict = dict.1

  pub cons_dict : (pair : K × T) (rest : List (K × T)) → IsBelow cmp pair.0 rest → IsDict cmp rest → IsDict cmp (pair ∷ rest)
  unfolding IsStrictlySortedBy
  cons_dict pair rest below dict = (below, dict)

  module _ (total : IsTotalOrder cmp) where
    module _ (key : K) (value : T) where
      below-put : (x : K) (pairs : List (K × T)) → cmp x key ≡ Less → IsBelow cmp x pairs → IsBelow cmp x (put cmp key value pairs)
      below-put x [] h below = (h, tt)
      below-put x (pair ∷ rest) h below = by_ordering (cmp pair.0 key)
          (λ e. subst (IsBelow cmp x) (sym (put-past cmp key value pair rest e)) (below.0, below-put x rest h below.1))
          (λ e. subst (IsBelow cmp x) (sym (put-here cmp key value pair rest e)) (h, below.1))
          (λ e. subst (IsBelow cmp x) (sym (put-before cmp key value pair rest e)) (h, below))

      pub IsDict-put : (pairs : List (K × T)) → IsDict cmp pairs → IsDict cmp (put cmp key value pairs)
      IsDict-put [] dict = cons_dict (key, value) [] tt dict
      IsDict-put (pair ∷ rest) dict = by_ordering (cmp pair.0 key)
          (λ e. subst (IsDict cmp) (sym (put-past cmp key value pair rest e))
          (cons_dict pair (put cmp key value rest) (below-put pair.0 rest e (first_below pair rest dict)) (IsDict-put rest (rest_dict pair rest dict))))
          (λ e. subst (IsDict cmp) (sym (put-here cmp key value pair rest e))
          (cons_dict (key, value) rest (all_tied cmp total pair.0 key rest e (first_below pair rest dict)) (rest_dict pair rest dict)))
          (λ e. let below : cmp key pair.0 ≡ Less = total.antisymm key pair.0 ∙ ap ordering_reverse e in
          subst (IsDict cmp) (sym (put-before cmp key value pair rest e))
          (cons_dict (key, value) (pair ∷ rest) (below, all_over cmp total key pair.0 rest below (first_below pair rest dict)) dict))

  module _ (key : K) where
    below-without : (x : K) (pairs : List (K × T)) → IsBelow cmp x pairs → IsBelow cmp x (without cmp key pairs)
    below-without x [] below = tt
    below-without x (pair ∷ rest) below = by_test (is_eq (cmp pair.0 key))
        (λ h. subst (IsBelow cmp x) (sym (without-here cmp key pair rest h)) below.1)
        (λ h. subst (IsBelow cmp x) (sym (without-past cmp key pair rest h)) (below.0, below-without x rest below.1))

    pub IsDict-without : (pairs : List (K × T)) → IsDict cmp pairs → IsDict cmp (without cmp key pairs)
    IsDict-without [] dict = dict
    IsDict-without (pair ∷ rest) dict = by_test (is_eq (cmp pair.0 key))
        (λ h. subst (IsDict cmp) (sym (without-here cmp key pair rest h)) (rest_dict pair rest dict))
        (λ h. subst (IsDict cmp) (sym (without-past cmp key pair rest h))
        (cons_dict pair (without cmp key rest) (below-without pair.0 rest (first_below pair rest dict)) (IsDict-without rest (rest_dict pair rest dict))))

module _ {K T : Type 0} (cmp : K → K → Ordering) (total : IsTotalOrder cmp) where
  pub IsDict-settled : (update : DictUpdate K T) (pairs : List (K × T)) → IsDict cmp pairs → IsDict cmp (settled cmp update pairs)
  IsDict-settled (Put key value) pairs dict = IsDict-put cmp total key value pairs dict
  IsDict-settled (Remove key) pairs dict = IsDict-without cmp key pairs dict

  pub IsDict-all_settled : (updates : List (DictUpdate K T)) (pairs : List (K × T)) → IsDict cmp pairs → IsDict cmp (all_settled cmp updates pairs)
  IsDict-all_settled [] pairs dict = dict
  IsDict-all_settled (update ∷ rest) pairs dict = IsDict-all_settled rest (settled cmp update pairs) (IsDict-settled update pairs dict)

-- What an update leaves at each key.
use Rattle.std.proofs.Common.{◌≡◌, true, false, cond, List, [], ◌∷◌, Option, Some, None, Ordering, refl, sym, ap, ◌∙◌}
use Rattle.std.specs.Cmp.{IsTotalOrder, Equal-is}
use Rattle.std.specs.Ordering.{is_eq}
use Rattle.std.specs.declared.cmp.Ordering.TheVariants.{Equal}
use Rattle.rc_dict.specs.Dict.{IsDict, key_of, value_of, entry, put, without, settled, all_settled, last_entry}
use Rattle.rc_dict.specs.declared.update.DictUpdate.{DictUpdate}
use Rattle.rc_dict.specs.declared.update.DictUpdate.TheVariants.{Put, Remove}
use Rattle.rc_dict.proofs.Edits.{entry-here, entry-past, put-past, put-here, put-before, without-here, without-past}
use Rattle.rc_dict.proofs.Kept.{first_below, rest_dict, IsDict-settled}
use Rattle.sorted_pairs.proofs.Below.{IsBelow}
use Rattle.sorted_pairs.proofs.Cases.{by_ordering, by_test, tie_flip}

-- a test that passes for equal
pub tie : (o : Ordering) → is_eq o ≡ true → o ≡ Equal
tie o h = (Equal-is o).0 h

module _ {K T : Type 0} (cmp : K → K → Ordering) (total : IsTotalOrder cmp) where
  module _ (z : K) where
    -- what an update leaves at z, where it leaves `left` at x, and z had `before`
    abbrev at_z : K → Option T → Option T → Option T
    at_z x left before = cond (is_eq (cmp x z)) left before

    at_z-tied : (x : K) (left before : Option T) → is_eq (cmp x z) ≡ true → at_z x left before ≡ left
    at_z-tied x left before h = ap (λ b. cond b left before) h

    at_z-apart : (x : K) (left before : Option T) → is_eq (cmp x z) ≡ false → at_z x left before ≡ before
    at_z-apart x left before h = ap (λ b. cond b left before) h

    -- below all the keys, and tied with z: z isn't there
    pub entry-below : (x : K) (pairs : List (K × T)) → IsBelow cmp x pairs → cmp x z ≡ Equal → entry cmp z pairs ≡ None
    entry-below x [] below e = refl
    entry-below x (pair ∷ rest) below e =
        let differ : is_eq (cmp pair.0 z) ≡ false = tie_flip total pair.0 z ∙ ap is_eq (sym (total.congr x z pair.0 e) ∙ below.0) in
        entry-past cmp z pair rest differ ∙ entry-below x rest below.1 e

    pub entry-put : (x : K) (value : T) (pairs : List (K × T)) → entry cmp z (put cmp x value pairs) ≡ cond (is_eq (cmp x z)) (Some value) (entry cmp z pairs)
    entry-put x value [] = refl
    entry-put x value (pair ∷ rest) = by_ordering (cmp pair.0 x)
        (λ e. ap (entry cmp z) (put-past cmp x value pair rest e) ∙ by_test (is_eq (cmp pair.0 z))
        (λ h. let apart : is_eq (cmp x z) ≡ false = tie_flip total x z ∙ ap is_eq (sym (total.congr pair.0 z x (tie (cmp pair.0 z) h)) ∙ e) in
        entry-here cmp z pair (put cmp x value rest) h ∙ sym (at_z-apart x (Some value) (entry cmp z (pair ∷ rest)) apart ∙ entry-here cmp z pair rest h))
        (λ h. entry-past cmp z pair (put cmp x value rest) h ∙ entry-put x value rest ∙ ap (at_z x (Some value)) (sym (entry-past cmp z pair rest h))))
        (λ e. ap (entry cmp z) (put-here cmp x value pair rest e) ∙ by_test (is_eq (cmp x z))
        (λ h. entry-here cmp z (x, value) rest h ∙ sym (at_z-tied x (Some value) (entry cmp z (pair ∷ rest)) h))
        (λ h. let past : is_eq (cmp pair.0 z) ≡ false = ap is_eq (total.congr pair.0 x z e) ∙ h in
        entry-past cmp z (x, value) rest h ∙ sym (at_z-apart x (Some value) (entry cmp z (pair ∷ rest)) h ∙ entry-past cmp z pair rest past)))
        (λ e. ap (entry cmp z) (put-before cmp x value pair rest e) ∙ by_test (is_eq (cmp x z))
        (λ h. entry-here cmp z (x, value) (pair ∷ rest) h ∙ sym (at_z-tied x (Some value) (entry cmp z (pair ∷ rest)) h))
        (λ h. entry-past cmp z (x, value) (pair ∷ rest) h ∙ sym (at_z-apart x (Some value) (entry cmp z (pair ∷ rest)) h)))

    pub entry-without : (x : K) (pairs : List (K × T)) → IsDict cmp pairs → entry cmp z (without cmp x pairs) ≡ cond (is_eq (cmp x z)) None (entry cmp z pairs)
    entry-without x [] dict = by_test (is_eq (cmp x z)) (λ h. sym (at_z-tied x None None h)) (λ h. sym (at_z-apart x None None h))
    entry-without x (pair ∷ rest) dict = by_test (is_eq (cmp pair.0 x))
        (λ here. ap (entry cmp z) (without-here cmp x pair rest here) ∙ by_test (is_eq (cmp x z))
        (λ h. let tied : cmp pair.0 z ≡ Equal = total.congr pair.0 x z (tie (cmp pair.0 x) here) ∙ tie (cmp x z) h in
        entry-below pair.0 rest (first_below cmp pair rest dict) tied ∙ sym (at_z-tied x None (entry cmp z (pair ∷ rest)) h))
        (λ h. let past : is_eq (cmp pair.0 z) ≡ false = ap is_eq (total.congr pair.0 x z (tie (cmp pair.0 x) here)) ∙ h in
        sym (at_z-apart x None (entry cmp z (pair ∷ rest)) h ∙ entry-past cmp z pair rest past)))
        (λ past. ap (entry cmp z) (without-past cmp x pair rest past) ∙ by_test (is_eq (cmp pair.0 z))
        (λ h. let apart : is_eq (cmp x z) ≡ false = tie_flip total x z ∙ ap is_eq (sym (total.congr pair.0 z x (tie (cmp pair.0 z) h))) ∙ past in
        entry-here cmp z pair (without cmp x rest) h ∙ sym (at_z-apart x None (entry cmp z (pair ∷ rest)) apart ∙ entry-here cmp z pair rest h))
        (λ h. entry-past cmp z pair (without cmp x rest) h ∙ entry-without x rest (rest_dict cmp pair rest dict) ∙ ap (at_z x None) (sym (entry-past cmp z pair rest h))))

    pub entry-settled : (update : DictUpdate K T) (pairs : List (K × T)) → IsDict cmp pairs → entry cmp z (settled cmp update pairs) ≡ cond (is_eq (cmp (key_of update) z)) (value_of update) (entry cmp z pairs)
    entry-settled (Put key value) pairs dict = entry-put key value pairs
    entry-settled (Remove key) pairs dict = entry-without key pairs dict

    pub entry-all_settled : (updates : List (DictUpdate K T)) (pairs : List (K × T)) → IsDict cmp pairs → entry cmp z (all_settled cmp updates pairs) ≡ last_entry cmp z updates (entry cmp z pairs)
    entry-all_settled [] pairs dict = refl
    entry-all_settled (update ∷ rest) pairs dict =
        entry-all_settled rest (settled cmp update pairs) (IsDict-settled cmp total update pairs dict) ∙ ap (last_entry cmp z rest) (entry-settled update pairs dict)

-- What a removal leaves.
use Rattle.std.proofs.Common.{◌≡◌, Bool, true, false, not, cond, filter, List, [], ◌∷◌, None, refl, sym, ap, subst, ◌∙◌}
use Rattle.std.specs.Cmp.{IsEquivalence}
use Rattle.std.specs.List.{AllByRecursion}
use Rattle.insertion_map.specs.Pairs.{AreDistinct, entry_of, without_key}
use Rattle.insertion_map.proofs.Cases.{by_test, some_is_not_none, at_z-tied, at_z-apart, apart_from, tied_with}
use Rattle.insertion_map.proofs.Puts.{entry-here, entry-past}

module _ {K T : Type 0} (eq : K → K → Bool) where
  module _ (key : K) (pair : K × T) (rest : List (K × T)) where
    without-here : eq key pair.0 ≡ true → without_key eq key (pair ∷ rest) ≡ rest
    without-here e = ap (λ b. cond b rest (pair ∷ without_key eq key rest)) e

    without-past : eq key pair.0 ≡ false → without_key eq key (pair ∷ rest) ≡ pair ∷ without_key eq key rest
    without-past e = ap (λ b. cond b rest (pair ∷ without_key eq key rest)) e

  pub absent_stays : (key : K) (pairs : List (K × T)) → entry_of eq key pairs ≡ None → without_key eq key pairs ≡ pairs
  absent_stays key [] none = refl
  absent_stays key (pair ∷ rest) none = by_test (eq key pair.0)
      (λ e. absurd (some_is_not_none (sym (entry-here eq key pair rest e) ∙ none)))
      (λ e. without-past key pair rest e ∙ ap (λ l. pair ∷ l) (absent_stays key rest (sym (entry-past eq key pair rest e) ∙ none)))

  all_without : (x key : K) (pairs : List (K × T)) → AllByRecursion (λ later. eq x later.0 ≡ false) pairs → AllByRecursion (λ later. eq x later.0 ≡ false) (without_key eq key pairs)
  all_without x key [] all = tt
  all_without x key (pair ∷ rest) all = by_test (eq key pair.0)
      (λ e. subst (AllByRecursion (λ later. eq x later.0 ≡ false)) (sym (without-here key pair rest e)) all.1)
      (λ e. subst (AllByRecursion (λ later. eq x later.0 ≡ false)) (sym (without-past key pair rest e)) (all.0, all_without x key rest all.1))

  pub distinct_without : (key : K) (pairs : List (K × T)) → AreDistinct eq pairs → AreDistinct eq (without_key eq key pairs)
  distinct_without key [] distinct = tt
  distinct_without key (pair ∷ rest) distinct = by_test (eq key pair.0)
      (λ e. subst (AreDistinct eq) (sym (without-here key pair rest e)) distinct.1)
      (λ e. subst (AreDistinct eq) (sym (without-past key pair rest e)) (all_without pair.0 key rest distinct.0, distinct_without key rest distinct.1))

  module _ (laws : IsEquivalence eq) where
    -- a key that is equal to one which no key of the list is equal to isn't there
    absent : (x z : K) (pairs : List (K × T)) → eq x z ≡ true → AllByRecursion (λ later. eq x later.0 ≡ false) pairs → entry_of eq z pairs ≡ None
    absent x z [] tied all = refl
    absent x z (pair ∷ rest) tied all = entry-past eq z pair rest (sym (laws.congr x z pair.0 tied) ∙ all.0) ∙ absent x z rest tied all.1

    pub entry_without : (x z : K) (pairs : List (K × T)) → AreDistinct eq pairs → entry_of eq z (without_key eq x pairs) ≡ cond (eq x z) None (entry_of eq z pairs)
    entry_without x z [] distinct = by_test (eq x z) (λ h. sym (at_z-tied eq x z None None h)) (λ h. sym (at_z-apart eq x z None None h))
    entry_without x z (pair ∷ rest) distinct = by_test (eq x pair.0)
        (λ here. ap (entry_of eq z) (without-here x pair rest here) ∙ by_test (eq x z)
        (λ h. absent pair.0 z rest (sym (laws.congr x pair.0 z here) ∙ h) distinct.0 ∙ sym (at_z-tied eq x z None (entry_of eq z (pair ∷ rest)) h))
        (λ h. sym (at_z-apart eq x z None (entry_of eq z (pair ∷ rest)) h ∙ entry-past eq z pair rest (tied_with eq laws x pair.0 z here ∙ h))))
        (λ past. ap (entry_of eq z) (without-past x pair rest past) ∙ by_test (eq z pair.0)
        (λ h. entry-here eq z pair (without_key eq x rest) h
        ∙ sym (at_z-apart eq x z None (entry_of eq z (pair ∷ rest)) (apart_from eq laws x pair.0 z past h) ∙ entry-here eq z pair rest h))
        (λ h. entry-past eq z pair (without_key eq x rest) h ∙ (entry_without x z rest distinct.1 ∙ ap (cond (eq x z) None) (sym (entry-past eq z pair rest h)))))

    -- ---- the rest

    abbrev other_than : K → K × T → Bool
    other_than x pair = not (eq x pair.0)

    all_other : (x y : K) (pairs : List (K × T)) → eq x y ≡ true → AllByRecursion (λ later. eq y later.0 ≡ false) pairs → filter (other_than x) pairs ≡ pairs
    all_other x y [] tied all = refl
    all_other x y (pair ∷ rest) tied all =
        ap (λ b. cond (not b) (pair ∷ filter (other_than x) rest) (filter (other_than x) rest)) (laws.congr x y pair.0 tied ∙ all.0) ∙ ap (λ l. pair ∷ l) (all_other x y rest tied all.1)

    pub others_stay : (x : K) (pairs : List (K × T)) → AreDistinct eq pairs → without_key eq x pairs ≡ filter (other_than x) pairs
    others_stay x [] distinct = refl
    others_stay x (pair ∷ rest) distinct = by_test (eq x pair.0)
        (λ e. without-here x pair rest e ∙ (sym (all_other x pair.0 rest e distinct.0)
        ∙ sym (ap (λ b. cond (not b) (pair ∷ filter (other_than x) rest) (filter (other_than x) rest)) e)))
        (λ e. without-past x pair rest e ∙ (ap (λ l. pair ∷ l) (others_stay x rest distinct.1)
        ∙ sym (ap (λ b. cond (not b) (pair ∷ filter (other_than x) rest) (filter (other_than x) rest)) e)))

-- What a put leaves.
use Rattle.std.proofs.Common.{◌≡◌, Bool, true, false, cond, List, [], ◌∷◌, ◌++◌, map, Some, None, is_some, refl, sym, ap, subst, ◌∙◌}
use Rattle.std.proofs.lemmas.Bool.{false≢true}
use Rattle.std.specs.Cmp.{IsEquivalence}
use Rattle.std.specs.List.{AllByRecursion}
use Rattle.insertion_map.specs.Pairs.{AreDistinct, entry_of, with_pair}
use Rattle.insertion_map.proofs.Cases.{by_test, some_is_not_none, at_z-tied, at_z-apart, apart_from, tied_with}

module _ {K T : Type 0} (eq : K → K → Bool) where
  -- ---- what a definition says of the first pair

  module _ (key : K) (pair : K × T) (rest : List (K × T)) where
    pub entry-here : eq key pair.0 ≡ true → entry_of eq key (pair ∷ rest) ≡ Some pair.1
    entry-here e = ap (λ b. cond b (Some pair.1) (entry_of eq key rest)) e

    pub entry-past : eq key pair.0 ≡ false → entry_of eq key (pair ∷ rest) ≡ entry_of eq key rest
    entry-past e = ap (λ b. cond b (Some pair.1) (entry_of eq key rest)) e

    pub put-here : (value : T) → eq key pair.0 ≡ true → with_pair eq key value (pair ∷ rest) ≡ (pair.0, value) ∷ rest
    put-here value e = ap (λ b. cond b ((pair.0, value) ∷ rest) (pair ∷ with_pair eq key value rest)) e

    pub put-past : (value : T) → eq key pair.0 ≡ false → with_pair eq key value (pair ∷ rest) ≡ pair ∷ with_pair eq key value rest
    put-past value e = ap (λ b. cond b ((pair.0, value) ∷ rest) (pair ∷ with_pair eq key value rest)) e

  -- ---- the order

  pub new_last : (key : K) (value : T) (pairs : List (K × T)) → entry_of eq key pairs ≡ None → with_pair eq key value pairs ≡ pairs ++ (key, value) ∷ []
  new_last key value [] none = refl
  new_last key value (pair ∷ rest) none = by_test (eq key pair.0)
      (λ e. absurd (some_is_not_none (sym (entry-here key pair rest e) ∙ none)))
      (λ e. put-past key pair rest value e ∙ ap (λ l. pair ∷ l) (new_last key value rest (sym (entry-past key pair rest e) ∙ none)))

  pub keys_kept : (key : K) (value : T) (pairs : List (K × T)) → is_some (entry_of eq key pairs) ≡ true → map (λ pair. pair.0) (with_pair eq key value pairs) ≡ map (λ pair. pair.0) pairs
  keys_kept key value [] there = absurd (false≢true there)
  keys_kept key value (pair ∷ rest) there = by_test (eq key pair.0)
      (λ e. ap (map (λ p. p.0)) (put-here key pair rest value e))
      (λ e. ap (map (λ p. p.0)) (put-past key pair rest value e) ∙ ap (λ l. pair.0 ∷ l) (keys_kept key value rest (sym (ap is_some (entry-past key pair rest e)) ∙ there)))

  module _ (laws : IsEquivalence eq) where
    -- ---- keys that aren't twice there

    all_put : (x key : K) (value : T) (pairs : List (K × T)) → eq x key ≡ false → AllByRecursion (λ later. eq x later.0 ≡ false) pairs
        → AllByRecursion (λ later. eq x later.0 ≡ false) (with_pair eq key value pairs)
    all_put x key value [] apart all = (apart, tt)
    all_put x key value (pair ∷ rest) apart all = by_test (eq key pair.0)
        (λ e. subst (AllByRecursion (λ later. eq x later.0 ≡ false)) (sym (put-here key pair rest value e)) (all.0, all.1))
        (λ e. subst (AllByRecursion (λ later. eq x later.0 ≡ false)) (sym (put-past key pair rest value e)) (all.0, all_put x key value rest apart all.1))

    pub distinct_put : (key : K) (value : T) (pairs : List (K × T)) → AreDistinct eq pairs → AreDistinct eq (with_pair eq key value pairs)
    distinct_put key value [] distinct = (tt, tt)
    distinct_put key value (pair ∷ rest) distinct = by_test (eq key pair.0)
        (λ e. subst (AreDistinct eq) (sym (put-here key pair rest value e)) (distinct.0, distinct.1))
        (λ e. subst (AreDistinct eq) (sym (put-past key pair rest value e)) (all_put pair.0 key value rest (laws.symm pair.0 key ∙ e) distinct.0, distinct_put key value rest distinct.1))

    apart_within : (x : K) (front back : List (K × T)) (pair : K × T) → AllByRecursion (λ later. eq x later.0 ≡ false) (front ++ pair ∷ back) → eq x pair.0 ≡ false
    apart_within x [] back pair all = all.0
    apart_within x (first ∷ front) back pair all = apart_within x front back pair all.1

    -- a key that stands before a pair of this key stands twice
    pub stands_twice : (front back : List (K × T)) (pair : K × T) → is_some (entry_of eq pair.0 front) ≡ true → AreDistinct eq (front ++ pair ∷ back) → ⊥
    stands_twice [] back pair there distinct = false≢true there
    stands_twice (first ∷ front) back pair there distinct = by_test (eq pair.0 first.0)
        (λ e. false≢true (sym (laws.symm pair.0 first.0 ∙ apart_within first.0 front back pair distinct.0) ∙ e))
        (λ e. stands_twice front back pair (sym (ap is_some (entry-past pair.0 first front e)) ∙ there) distinct.1)

    -- ---- what is at a key

    pub entry_put : (x z : K) (value : T) (pairs : List (K × T)) → entry_of eq z (with_pair eq x value pairs) ≡ cond (eq x z) (Some value) (entry_of eq z pairs)
    entry_put x z value [] = ap (λ b. cond b (Some value) None) (laws.symm z x)
    entry_put x z value (pair ∷ rest) = by_test (eq x pair.0)
        (λ here. ap (entry_of eq z) (put-here x pair rest value here) ∙ by_test (eq x z)
        (λ h. entry-here z (pair.0, value) rest (tied_with eq laws x pair.0 z here ∙ h) ∙ sym (at_z-tied eq x z (Some value) (entry_of eq z (pair ∷ rest)) h))
        (λ h. entry-past z (pair.0, value) rest (tied_with eq laws x pair.0 z here ∙ h)
        ∙ sym (at_z-apart eq x z (Some value) (entry_of eq z (pair ∷ rest)) h ∙ entry-past z pair rest (tied_with eq laws x pair.0 z here ∙ h))))
        (λ past. ap (entry_of eq z) (put-past x pair rest value past) ∙ by_test (eq z pair.0)
        (λ h. entry-here z pair (with_pair eq x value rest) h
        ∙ sym (at_z-apart eq x z (Some value) (entry_of eq z (pair ∷ rest)) (apart_from eq laws x pair.0 z past h) ∙ entry-here z pair rest h))
        (λ h. entry-past z pair (with_pair eq x value rest) h ∙ (entry_put x z value rest ∙ ap (cond (eq x z) (Some value)) (sym (entry-past z pair rest h)))))

    -- ---- two puts

    pub put_twice : (one other : K) (x y : T) (pairs : List (K × T)) → eq one other ≡ true → with_pair eq other y (with_pair eq one x pairs) ≡ with_pair eq one y pairs
    put_twice one other x y [] tied = put-here other (one, x) [] y (laws.symm other one ∙ tied)
    put_twice one other x y (pair ∷ rest) tied = by_test (eq one pair.0)
        (λ here. ap (with_pair eq other y) (put-here one pair rest x here) ∙ (put-here other (pair.0, x) rest y (sym (laws.congr one other pair.0 tied) ∙ here) ∙ sym (put-here one pair rest y here)))
        (λ past. ap (with_pair eq other y) (put-past one pair rest x past) ∙ (put-past other pair (with_pair eq one x rest) y (sym (laws.congr one other pair.0 tied) ∙ past)
        ∙ (ap (λ l. pair ∷ l) (put_twice one other x y rest tied) ∙ sym (put-past one pair rest y past))))

    pub puts_apart : (one other : K) (x y : T) (pairs : List (K × T)) → eq one other ≡ false → is_some (entry_of eq other pairs) ≡ true
        → with_pair eq other y (with_pair eq one x pairs) ≡ with_pair eq one x (with_pair eq other y pairs)
    puts_apart one other x y [] apart there = absurd (false≢true there)
    puts_apart one other x y (pair ∷ rest) apart there = by_test (eq one pair.0)
        (λ here.
        let past : eq other pair.0 ≡ false = tied_with eq laws one pair.0 other here ∙ apart in
        ap (with_pair eq other y) (put-here one pair rest x here) ∙ (put-past other (pair.0, x) rest y past
        ∙ sym (ap (with_pair eq one x) (put-past other pair rest y past) ∙ put-here one pair (with_pair eq other y rest) x here)))
        (λ past. by_test (eq other pair.0)
        (λ h. ap (with_pair eq other y) (put-past one pair rest x past) ∙ (put-here other pair (with_pair eq one x rest) y h
        ∙ sym (ap (with_pair eq one x) (put-here other pair rest y h) ∙ put-past one (pair.0, y) rest x past)))
        (λ h. ap (with_pair eq other y) (put-past one pair rest x past) ∙ (put-past other pair (with_pair eq one x rest) y h
        ∙ (ap (λ l. pair ∷ l) (puts_apart one other x y rest apart (sym (ap is_some (entry-past other pair rest h)) ∙ there))
        ∙ sym (ap (with_pair eq one x) (put-past other pair rest y h) ∙ put-past one pair (with_pair eq other y rest) x past)))))

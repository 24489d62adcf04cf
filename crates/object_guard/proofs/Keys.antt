-- What a body's type holds of its keys is what its test asks of them.
use Rattle.std.proofs.Common.{◌≡◌, ◌∙◌, refl, sym, ap, subst, rules, ℕ, ◌<◌, ◌^◌, Bool, true, false, ◌&&◌, not, nat_lt, List, [], ◌∷◌, length, map}
use Rattle.std.proofs.Math.Path.{fun_ext}
use Rattle.std.specs.List.{AllByRecursion, list_all, list_any}
use Rattle.std.specs.List.Sorted.{IsStrictlySortedBy}
use Rattle.std.specs.Ordering.{is_lt}
use Rattle.std.specs.declared.cmp.Ordering.{Ordering}
use Rattle.std.specs.declared.cmp.Ordering.TheVariants.{Less}
use Rattle.std.proofs.lemmas.Bool.{and_from, or_from, not_from_false, lt-ltb}
use Rattle.gem_object.specs.insertion_map.Pairs.{AreDistinct}
use Rattle.gem_object.specs.rc_counter_bag.Bag.{IsBag}
use Rattle.gem_object.specs.rc_dict.Dict.{IsDict}
use Rattle.gem_object.specs.Order.{value_order, same_value}
use Rattle.gem_object.specs.Spelling.{is_key}
use Rattle.gem_object.specs.contracts.value.ValuePartialEq.TheImpl as equality
use Rattle.gem_object.specs.contracts.value.ValueOrd.TheImpl as order
use Rattle.gem_object.specs.contracts.value.ValueOrd.TheImpl.Laws.{matches_eq-law}
use Rattle.gem_object.specs.declared.value.Value.{Value}
use Rattle.std.specs.Ordering.{is_eq}
use Rattle.object_programs.specs.Spelled.{ascends_after, ascends, is_storable, is_storable_pair, keys_differ, is_nil, is_dictionary_body, occurs, are_items, is_key_dictionary}
use Rattle.object_guard.specs.Spelled.{is_entry, is_item, is_key_pair}
use Rattle.object_guard.proofs.Walks.{both_hold}

-- values compare as their order says
in_order : (value other : Value) → order.ghosts.cmp value other ≡ value_order value other
in_order = search rules

orders : order.ghosts.cmp ≡ value_order
orders = fun_ext (λ value. fun_ext (in_order value))

same_values : equality.ghosts.eq ≡ same_value
same_values = fun_ext (λ value. fun_ext (λ other. matches_eq-law value other ∙ ap is_eq (in_order value other)))

-- ---- keys that differ

no_other : (pair : Value × Value) (rest : List (Value × Value))
    → AllByRecursion (λ (later : Value × Value). same_value pair.0 later.0 ≡ false) rest
    → list_any (λ (other : Value × Value). same_value pair.0 other.0) rest ≡ false
no_other pair [] all = refl
no_other pair (other ∷ rest) all = or_from (same_value pair.0 other.0)
    (list_any (λ (some : Value × Value). same_value pair.0 some.0) rest) all.0 (no_other pair rest all.1)

differ : (pairs : List (Value × Value)) → AreDistinct same_value pairs → keys_differ pairs ≡ true
differ [] distinct = refl
differ (pair ∷ rest) distinct = and_from _ _
    (not_from_false (list_any (λ (other : Value × Value). same_value pair.0 other.0) rest) (no_other pair rest distinct.0))
    (differ rest distinct.1)

by_entries : (count stored differ named : Bool) → differ ≡ true
    → (count && (stored && named)) ≡ (count && (stored && (differ && named)))
by_entries count stored differ named is = rw is refl

-- a dictionary's test, where its keys differ
pub dictionary_by : (pairs : List (Value × Value)) → AreDistinct equality.ghosts.eq pairs
    → (nat_lt (length pairs) (2 ^ 32) && list_all is_entry pairs) ≡ is_dictionary_body pairs
dictionary_by pairs distinct =
    let Distinct : (Value → Value → Bool) → Type 0 = λ eq. AreDistinct eq pairs in
    ap (λ b. nat_lt (length pairs) (2 ^ 32) && b) (both_hold is_storable_pair (λ pair. not (is_nil pair.0)) pairs)
    ∙ by_entries (nat_lt (length pairs) (2 ^ 32)) (list_all is_storable_pair pairs) (keys_differ pairs)
    (list_all (λ (pair : Value × Value). not (is_nil pair.0)) pairs) (differ pairs (subst Distinct same_values distinct))

-- ---- keys that ascend

below : (one : Ordering) → one ≡ Less → is_lt one ≡ true
below one less = ap is_lt less

module _ {X : Type 0} (order : X → X → Ordering) where
  ascend_after : (first : X) (rest : List X) → AllByRecursion (λ later. order first later ≡ Less) rest
      → IsStrictlySortedBy order rest → ascends_after order first rest ≡ true
  unfolding IsStrictlySortedBy
  ascend_after first [] less sorted = refl
  ascend_after first (next ∷ rest) less sorted = and_from (is_lt (order first next)) (ascends_after order next rest)
      (below (order first next) less.0) (ascend_after next rest sorted.0 sorted.1)

  sorted_ascend : (xs : List X) → IsStrictlySortedBy order xs → ascends order xs ≡ true
  unfolding IsStrictlySortedBy
  sorted_ascend [] sorted = refl
  sorted_ascend (first ∷ rest) sorted = ascend_after first rest sorted.0 sorted.1

values_ascend : (values : List Value) → IsStrictlySortedBy order.ghosts.cmp values → ascends value_order values ≡ true
values_ascend values sorted =
    let Sorted : (Value → Value → Ordering) → Type 0 = λ by. IsStrictlySortedBy by values in
    sorted_ascend value_order values (subst Sorted orders sorted)

by_items : (count stored ascend occur : Bool) → ascend ≡ true
    → (count && (occur && stored)) ≡ (count && (stored && (ascend && occur)))
by_items false stored ascend occur is = refl
by_items true true true true is = refl
by_items true true true false is = refl
by_items true false true true is = refl
by_items true false true false is = refl
by_items true stored false occur is = cc

-- a bag's test
pub bag_by : (pairs : List (Value × ℕ)) → IsBag order.ghosts.cmp pairs
    → (nat_lt (length pairs) (2 ^ 32) && list_all is_item pairs) ≡ are_items pairs
bag_by pairs bag =
    ap (λ b. nat_lt (length pairs) (2 ^ 32) && b) (both_hold occurs (λ pair. is_storable pair.0) pairs)
    ∙ by_items (nat_lt (length pairs) (2 ^ 32)) (list_all (λ (pair : Value × ℕ). is_storable pair.0) pairs)
    (ascends value_order (map (λ (pair : Value × ℕ). pair.0) pairs)) (list_all occurs pairs)
    (values_ascend (map (λ (pair : Value × ℕ). pair.0) pairs) bag.ascends)

-- the test of a reduced-conflict dictionary
pub key_dictionary_by : (pairs : List (Value × Value)) → IsDict order.ghosts.cmp pairs
    → (nat_lt (length pairs) (2 ^ 32) && list_all is_key_pair pairs) ≡ is_key_dictionary pairs
key_dictionary_by pairs dict =
    ap (λ b. nat_lt (length pairs) (2 ^ 32) && b) (both_hold is_storable_pair (λ pair. is_key pair.0) pairs)
    ∙ by_entries (nat_lt (length pairs) (2 ^ 32)) (list_all is_storable_pair pairs)
    (ascends value_order (map (λ (pair : Value × Value). pair.0) pairs)) (list_all (λ (pair : Value × Value). is_key pair.0) pairs)
    (values_ascend (map (λ (pair : Value × Value). pair.0) pairs) dict)

-- ---- the same where the counts are known

counted : (count : ℕ) (test : Bool) → count < 2 ^ 32 → test ≡ (nat_lt count (2 ^ 32) && test)
counted count test few = sym (ap (λ b. b && test) (lt-ltb count (2 ^ 32) few))

pub dictionary_of : (pairs : List (Value × Value)) → length pairs < 2 ^ 32 → AreDistinct equality.ghosts.eq pairs
    → list_all is_entry pairs ≡ is_dictionary_body pairs
dictionary_of pairs few distinct = counted (length pairs) (list_all is_entry pairs) few ∙ dictionary_by pairs distinct

pub bag_of : (pairs listed : List (Value × ℕ)) → listed ≡ pairs → length listed < 2 ^ 32 → IsBag order.ghosts.cmp pairs
    → list_all is_item listed ≡ are_items pairs
bag_of pairs listed same few bag = counted (length listed) (list_all is_item listed) few
    ∙ ap (λ (some : List (Value × ℕ)). nat_lt (length some) (2 ^ 32) && list_all is_item some) same ∙ bag_by pairs bag

pub key_dictionary_of : (pairs listed : List (Value × Value)) → listed ≡ pairs → length listed < 2 ^ 32
    → IsDict order.ghosts.cmp pairs → list_all is_key_pair listed ≡ is_key_dictionary pairs
key_dictionary_of pairs listed same few dict = counted (length listed) (list_all is_key_pair listed) few
    ∙ ap (λ (some : List (Value × Value)). nat_lt (length some) (2 ^ 32) && list_all is_key_pair some) same
    ∙ key_dictionary_by pairs dict

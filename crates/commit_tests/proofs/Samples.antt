-- What the tests make is in order, and has a spelling.
use Rattle.std.proofs.Common.{◌≡◌, ◌<◌, ◌^◌, ℕ, true, pos, List, [], ◌∷◌, refl, sym, subst, arith}
use Rattle.std.specs.List.Sorted.{IsStrictlySortedBy}
use Rattle.std.specs.Cmp.{nat_cmp_is}
use Rattle.std.specs.declared.cmp.Ordering.TheVariants.{Less}
use Rattle.std.proofs.lemmas.List.Elements.{All-nil, All-cons}
use Rattle.gem_object.specs.Spelling.{IsStorable, IsStorablePair, IsItems, IsKeyDictionary, is_key}
use Rattle.gem_object.specs.declared.value.Value.{Value}
use Rattle.gem_object.specs.declared.value.Value.TheVariants.{Int, Char}
use Rattle.gem_record.specs.Names.{Ascend}

nil_ascends : Ascend []
unfolding IsStrictlySortedBy
nil_ascends = tt

alone_ascends : (x : ℕ) → Ascend (x ∷ [])
unfolding IsStrictlySortedBy
alone_ascends x = (tt, tt)

pair_ascends : (x y : ℕ) → x < y → Ascend (x ∷ y ∷ [])
unfolding IsStrictlySortedBy
pair_ascends x y below = ((sym (nat_cmp_is x y Less below), tt), (tt, tt))

pub none_ascend : (names : List ℕ) → names ≡ [] → Ascend names
none_ascend names is = subst Ascend (sym is) nil_ascends

pub one_ascends : (names : List ℕ) (x : ℕ) → names ≡ x ∷ [] → Ascend names
one_ascends names x is = subst Ascend (sym is) (alone_ascends x)

pub two_ascend : (names : List ℕ) (x y : ℕ) → names ≡ x ∷ y ∷ [] → x < y → Ascend names
two_ascend names x y is below = subst Ascend (sym is) (pair_ascends x y below)

nil_items : IsItems []
unfolding IsStrictlySortedBy
nil_items = record { count = omega arith; each = All-nil _; ascend = tt; occur = All-nil _ }

pub no_items : (pairs : List (Value × ℕ)) → pairs ≡ [] → IsItems pairs
no_items pairs is = subst IsItems (sym is) nil_items

alone_item : (n : ℕ) → 0 < n → n < 2 ^ 64 → IsItems ((Char 120, n) ∷ [])
unfolding IsStrictlySortedBy
alone_item n occurs fits = record {
  count = omega arith;
  each = All-cons (λ p. IsStorable p.0) (Char 120, n) [] (omega arith) (All-nil _);
  ascend = (tt, tt);
  occur = All-cons (λ p. (0 < p.1) × (p.1 < 2 ^ 64)) (Char 120, n) [] (occurs, fits) (All-nil _);
}

pub one_item : (pairs : List (Value × ℕ)) (n : ℕ) → pairs ≡ (Char 120, n) ∷ [] → 0 < n
    → n < 2 ^ 64 → IsItems pairs
one_item pairs n is occurs fits = subst IsItems (sym is) (alone_item n occurs fits)

nil_keys : IsKeyDictionary []
unfolding IsStrictlySortedBy
nil_keys = record { count = omega arith; each = All-nil _; ascend = tt; keys = All-nil _ }

pub no_keys : (pairs : List (Value × Value)) → pairs ≡ [] → IsKeyDictionary pairs
no_keys pairs is = subst IsKeyDictionary (sym is) nil_keys

abbrev entry_a : Value × Value
entry_a = (Char 97, Int (pos 1))

abbrev entry_b : Value × Value
entry_b = (Char 98, Int (pos 2))

a_storable : IsStorablePair entry_a
a_storable = (omega arith, refl)

b_storable : IsStorablePair entry_b
b_storable = (omega arith, refl)

alone_key : IsKeyDictionary (entry_a ∷ [])
unfolding IsStrictlySortedBy
alone_key = record {
  count = omega arith;
  each = All-cons IsStorablePair entry_a [] a_storable (All-nil _);
  ascend = (tt, tt);
  keys = All-cons (λ p. is_key p.0 ≡ true) entry_a [] refl (All-nil _);
}

pub one_key : (pairs : List (Value × Value)) → pairs ≡ (Char 97, Int (pos 1)) ∷ []
    → IsKeyDictionary pairs
one_key pairs is = subst IsKeyDictionary (sym is) alone_key

both_keys : IsKeyDictionary (entry_a ∷ entry_b ∷ [])
unfolding IsStrictlySortedBy
both_keys = record {
  count = omega arith;
  each = All-cons IsStorablePair entry_a (entry_b ∷ []) a_storable (All-cons IsStorablePair entry_b [] b_storable (All-nil _));
  ascend = ((refl, tt), (tt, tt));
  keys = All-cons (λ p. is_key p.0 ≡ true) entry_a (entry_b ∷ []) refl (All-cons (λ p. is_key p.0 ≡ true) entry_b [] refl (All-nil _));
}

pub two_keys : (pairs : List (Value × Value))
    → pairs ≡ (Char 97, Int (pos 1)) ∷ (Char 98, Int (pos 2)) ∷ [] → IsKeyDictionary pairs
two_keys pairs is = subst IsKeyDictionary (sym is) both_keys

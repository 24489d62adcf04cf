-- What a sum over a list is after one place of it is set, comes or goes, and over pairs after a put and a removal.
use Rattle.std.proofs.Common.{◌≡◌, refl, sym, ap, ℕ, ◌+◌, ◌<◌, Bool, true, false, if◌then◌else◌, List, [], ◌∷◌, ◌++◌, Some, None, length, take, drop, slice_set, get_or, arith}
use Rattle.std.specs.List.{sum_by, slice_get}
use Rattle.std.proofs.lemmas.Option.{slice_get_within, get_or_from_slice_get}
use Rattle.std.proofs.lemmas.List.Sums.{sum_by-cons, sum_by-append, sum_by-set, sum_by-take-drop, sum_by-drop_more, get_or-le-sum_by}
use Rattle.gem_object.specs.insertion_map.Pairs.{entry_of, with_pair, without_key}
use Rattle.gem_object.specs.Sizes.{value_size, pair_size}
use Rattle.gem_object.specs.declared.value.Value.{Value}
use Rattle.body_growth.specs.Changes.{Shifts}

module _ {X : Type 0} (f : X → ℕ) (xs : List X) (at : ℕ) where
  -- another item comes in the place of one
  pub item_put : (old new : X) → at < length xs → old ≡ get_or xs at old
      → Shifts (sum_by f xs) (f old) (f new) (sum_by f (slice_set xs at new))
  item_put old new within read =
      let size : f (get_or xs at old) ≡ f old = ap f (sym read) in
      record {
        had = omega (arith, size, get_or-le-sum_by f xs at old within);
        is = omega (arith, size, sum_by-set f xs at new old within);
      }

  pub item_set : (old new : X) → slice_get xs at ≡ Some old
      → Shifts (sum_by f xs) (f old) (f new) (sum_by f (slice_set xs at new))
  item_set old new here =
      item_put old new (slice_get_within xs at old here) (sym (get_or_from_slice_get xs at old old here))

  -- an item comes
  pub item_inserted : (new : X) → sum_by f (take at xs ++ new ∷ drop at xs) ≡ sum_by f xs + f new
  item_inserted new = omega (
    arith,
    sum_by-append f (take at xs) (new ∷ drop at xs),
    sum_by-cons f new (drop at xs),
    sum_by-take-drop f xs at,
  )

  -- an item goes
  pub item_removed : (old : X) → slice_get xs at ≡ Some old
      → Shifts (sum_by f xs) (f old) 0 (sum_by f (take at xs ++ drop (at + 1) xs))
  item_removed old here =
      let within : at < length xs = slice_get_within xs at old here in
      let is : get_or xs at old ≡ old = get_or_from_slice_get xs at old old here in
      let size : f (get_or xs at old) ≡ f old = ap f is in
      record {
        had = omega (arith, size, get_or-le-sum_by f xs at old within);
        is = omega (
          arith,
          size,
          sum_by-append f (take at xs) (drop (at + 1) xs),
          sum_by-take-drop f xs at,
          sum_by-drop_more f xs at old within,
        );
      }

module _ (eq : Value → Value → Bool) (key : Value) where
  -- a value at a key that is there
  pub value_put : (old new : Value) (pairs : List (Value × Value)) → entry_of eq key pairs ≡ Some old
      → Shifts (sum_by pair_size pairs) (value_size old) (value_size new) (sum_by pair_size (with_pair eq key new pairs))
  value_put old new [] there = cc
  value_put old new (pair ∷ rest) there = by (eq key pair.0) (value_put old new rest) there
    where
      by : (same : Bool) → (entry_of eq key rest ≡ Some old → Shifts (sum_by pair_size rest) (value_size old) (value_size new)
          (sum_by pair_size (with_pair eq key new rest))) → (if same then Some pair.1 else entry_of eq key rest) ≡ Some old
          → Shifts (sum_by pair_size (pair ∷ rest)) (value_size old) (value_size new)
          (sum_by pair_size (if same then (pair.0, new) ∷ rest else pair ∷ with_pair eq key new rest))
      by true more here =
          let one : pair.1 ≡ old = cc in
          let size : value_size pair.1 ≡ value_size old = ap value_size one in
          record {
            had = omega (arith, size, sum_by-cons pair_size pair rest);
            is = omega (arith, size, sum_by-cons pair_size pair rest, sum_by-cons pair_size (pair.0, new) rest);
          }
      by false more here =
          let later = more here in
          record {
            had = omega (arith, later.had, sum_by-cons pair_size pair rest);
            is = omega (
              arith,
              later.is,
              sum_by-cons pair_size pair rest,
              sum_by-cons pair_size pair (with_pair eq key new rest),
            );
          }

  pub value_put_long : (old new : Value) (pairs : List (Value × Value)) → entry_of eq key pairs ≡ Some old
      → length (with_pair eq key new pairs) ≡ length pairs
  value_put_long old new [] there = cc
  value_put_long old new (pair ∷ rest) there = by (eq key pair.0) (value_put_long old new rest) there
    where
      by : (same : Bool) → (entry_of eq key rest ≡ Some old → length (with_pair eq key new rest) ≡ length rest) → (if same then Some pair.1 else entry_of eq key rest) ≡ Some old
          → length (if same then (pair.0, new) ∷ rest else pair ∷ with_pair eq key new rest) ≡ length (pair ∷ rest)
      by true more here = refl
      by false more here = omega (arith, more here)

  -- a key that isn't there comes last
  pub pair_added : (new : Value) (pairs : List (Value × Value)) → entry_of eq key pairs ≡ None
      → sum_by pair_size (with_pair eq key new pairs) ≡ sum_by pair_size pairs + (value_size key + value_size new)
  pair_added new [] none = omega (arith, sum_by-cons pair_size (key, new) [])
  pair_added new (pair ∷ rest) none = by (eq key pair.0) (pair_added new rest) none
    where
      by : (same : Bool) → (entry_of eq key rest ≡ None → sum_by pair_size (with_pair eq key new rest)
          ≡ sum_by pair_size rest + (value_size key + value_size new)) → (if same then Some pair.1 else entry_of eq key rest) ≡ None
          → sum_by pair_size (if same then (pair.0, new) ∷ rest else pair ∷ with_pair eq key new rest)
          ≡ sum_by pair_size (pair ∷ rest) + (value_size key + value_size new)
      by true more here = cc
      by false more here = omega (
        arith,
        more here,
        sum_by-cons pair_size pair rest,
        sum_by-cons pair_size pair (with_pair eq key new rest),
      )

  pub pair_added_long : (new : Value) (pairs : List (Value × Value)) → entry_of eq key pairs ≡ None
      → length (with_pair eq key new pairs) ≡ length pairs + 1
  pair_added_long new [] none = refl
  pair_added_long new (pair ∷ rest) none = by (eq key pair.0) (pair_added_long new rest) none
    where
      by : (same : Bool) → (entry_of eq key rest ≡ None → length (with_pair eq key new rest) ≡ length rest + 1) → (if same then Some pair.1 else entry_of eq key rest) ≡ None
          → length (if same then (pair.0, new) ∷ rest else pair ∷ with_pair eq key new rest) ≡ length (pair ∷ rest) + 1
      by true more here = cc
      by false more here = omega (arith, more here)

  -- a key's pair goes, where equal keys have as many bytes
  pub pair_gone : ((other : Value) → eq key other ≡ true → value_size other ≡ value_size key)
      → (old : Value) (pairs : List (Value × Value)) → entry_of eq key pairs ≡ Some old
      → Shifts (sum_by pair_size pairs) (value_size key + value_size old) 0 (sum_by pair_size (without_key eq key pairs))
  pair_gone alike old [] there = cc
  pair_gone alike old (pair ∷ rest) there = by (eq key pair.0) refl (pair_gone alike old rest) there
    where
      by : (same : Bool) → eq key pair.0 ≡ same → (entry_of eq key rest ≡ Some old → Shifts (sum_by pair_size rest)
          (value_size key + value_size old) 0 (sum_by pair_size (without_key eq key rest))) → (if same then Some pair.1 else entry_of eq key rest) ≡ Some old
          → Shifts (sum_by pair_size (pair ∷ rest)) (value_size key + value_size old) 0
          (sum_by pair_size (if same then rest else pair ∷ without_key eq key rest))
      by true same more here =
          let one : pair.1 ≡ old = cc in
          let size : value_size pair.1 ≡ value_size old = ap value_size one in
          record {
            had = omega (arith, size, alike pair.0 same, sum_by-cons pair_size pair rest);
            is = omega (arith, size, alike pair.0 same, sum_by-cons pair_size pair rest);
          }
      by false same more here =
          let later = more here in
          record {
            had = omega (arith, later.had, sum_by-cons pair_size pair rest);
            is = omega (
              arith,
              later.is,
              sum_by-cons pair_size pair rest,
              sum_by-cons pair_size pair (without_key eq key rest),
            );
          }

  pub pair_gone_long : (old : Value) (pairs : List (Value × Value)) → entry_of eq key pairs ≡ Some old
      → length (without_key eq key pairs) + 1 ≡ length pairs
  pair_gone_long old [] there = cc
  pair_gone_long old (pair ∷ rest) there = by (eq key pair.0) (pair_gone_long old rest) there
    where
      by : (same : Bool) → (entry_of eq key rest ≡ Some old → length (without_key eq key rest) + 1 ≡ length rest) → (if same then Some pair.1 else entry_of eq key rest) ≡ Some old
          → length (if same then rest else pair ∷ without_key eq key rest) + 1 ≡ length (pair ∷ rest)
      by true more here = omega arith
      by false more here = omega (arith, more here)

  pub key_not_there : (pairs : List (Value × Value)) → entry_of eq key pairs ≡ None → without_key eq key pairs ≡ pairs
  key_not_there [] none = refl
  key_not_there (pair ∷ rest) none = by (eq key pair.0) (key_not_there rest) none
    where
      by : (same : Bool) → (entry_of eq key rest ≡ None → without_key eq key rest ≡ rest) → (if same then Some pair.1 else entry_of eq key rest) ≡ None
          → (if same then rest else pair ∷ without_key eq key rest) ≡ pair ∷ rest
      by true more here = cc
      by false more here = ap (λ rest. pair ∷ rest) (more here)

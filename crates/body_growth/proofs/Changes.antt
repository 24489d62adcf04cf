-- What each edit of one place changes.
use Rattle.std.proofs.Common.{◌≡◌, ◌∙◌, refl, sym, ap, ap₂, subst, ℕ, zero, suc, ◌+◌, ◌<◌, ◌≤◌, true, List, [], ◌∷◌, ◌++◌, Some, None, length, take, drop, arith}
use Rattle.std.specs.List.{slice_get}
use Rattle.std.specs.Ordering.{is_eq}
use Rattle.std.specs.declared.cmp.Ordering.{Ordering}
use Rattle.std.specs.declared.cmp.Ordering.TheVariants.{Less, Equal, Greater}
use Rattle.std.proofs.lemmas.Bool.{false≢true}
use Rattle.std.proofs.lemmas.List.{length-set, set_past, take_all, drop_all, append-nil, length-take, length-drop, length-append, take-append-drop}
use Rattle.std.proofs.lemmas.Option.{slice_get_within}
use Rattle.gem_object.specs.Slots.{slots_of}
use Rattle.gem_object.specs.insertion_map.Pairs.{without_key}
use Rattle.gem_object.specs.Sizes.{value_size, pair_size, fields_size}
use Rattle.gem_object.specs.Edits.{slot_at, with_slot, with_slot_more, without_slot, with_byte, value_at, with_value_at, without_value_at}
use Rattle.gem_object.specs.Order.{value_order, same_value}
use Rattle.gem_object.specs.declared.value.Value.{Value}
use Rattle.gem_object.specs.declared.body.Body.{Body}
use Rattle.gem_object.specs.declared.body.Body.TheVariants as body
use Rattle.gem_object.proofs.Ties.{ties}
use Rattle.body_growth.specs.declared.change.Change.{Change}
use Rattle.body_growth.specs.Changes.{Shifts, Changes, counted}
use Rattle.body_growth.proofs.Sums.{item_set, item_inserted, item_removed, value_put, value_put_long, pair_added, pair_added_long, pair_gone, pair_gone_long, key_not_there}

-- where the new body is another way told
pub changed_as : {change : Change} {old new other : Body} → new ≡ other → Changes change old other → Changes change old new
changed_as {change} {old} same changes = subst (λ (one : Body). Changes change old one) (sym same) changes

-- where an edit does nothing
pub unchanged : {change : Change} {old new : Body} → ((one : Body) → Changes change one one) → new ≡ old → Changes change old new
unchanged {old = old} each same = changed_as same (each old)

nothing : (number : ℕ) → Shifts number 0 0 number
nothing number = record { had = omega arith; is = refl }

pub no_change : (body : Body) → Changes (record { slots_freed = 0; slots_taken = 0; bytes_freed = 0; bytes_taken = 0 }) body body
no_change body = record {
  slots = nothing (slots_of body);
  few = omega arith;
  freed = 0;
  taken = 0;
  bytes = nothing (fields_size body);
  freed_is = refl;
  taken_is = refl;
}

-- the same with something before
pub after_head : (head : ℕ) {old freed taken new : ℕ} → Shifts old freed taken new → Shifts (head + old) freed taken (head + new)
after_head head shifts = record { had = omega (arith, shifts.had); is = omega (arith, shifts.is) }

-- ---- slots

no_item : {X : Type 0} (xs : List X) (at : ℕ) → slice_get xs at ≡ None → length xs ≤ at
no_item [] at none = omega arith
no_item (x ∷ xs) zero none = cc
no_item (x ∷ xs) (suc at) none = omega (arith, no_item xs at none)

module _ (at : ℕ) where
  pub slot_not_there : (body : Body) (value : Value) → None ≡ slot_at at body → with_slot at value body ≡ body
  slot_not_there (body.Plain values) value none = ap body.Plain (set_past values at value (no_item values at (sym none)))
  slot_not_there _ value none = refl

  pub slot_not_gone : (body : Body) → None ≡ slot_at at body → without_slot at body ≡ body
  slot_not_gone (body.Plain values) none =
      let past : length values ≤ at = no_item values at (sym none) in
      let kept : take at values ≡ values = take_all at values past in
      let rest : drop (at + 1) values ≡ [] = drop_all (at + 1) values (omega (arith, past)) in
      ap body.Plain (ap₂ (λ (a b : List Value). a ++ b) kept rest ∙ append-nil values)
  slot_not_gone _ none = refl

  pub slot_set : (body : Body) (old new : Value) (freed taken : ℕ) → Some old ≡ slot_at at body
      → freed ≡ counted (value_size old) → taken ≡ counted (value_size new)
      → Changes (record { slots_freed = 0; slots_taken = 0; bytes_freed = freed; bytes_taken = taken }) body (with_slot at new body)
  slot_set (body.Plain values) old new freed taken here less more = record {
    slots = record { had = omega arith; is = omega (arith, length-set values at new) };
    few = omega arith;
    freed = value_size old;
    taken = value_size new;
    bytes = after_head 4 (item_set value_size values at old new (sym here));
    freed_is = less;
    taken_is = more;
  }
  slot_set _ old new freed taken here less more = cc

  pub slot_gone : (body : Body) (old : Value) (freed : ℕ) → Some old ≡ slot_at at body
      → freed ≡ counted (value_size old)
      → Changes (record { slots_freed = 1; slots_taken = 0; bytes_freed = freed; bytes_taken = 0 }) body (without_slot at body)
  slot_gone (body.Plain values) old freed here less =
      let within : at < length values = slice_get_within values at old (sym here) in
      record {
        slots = record {
          had = omega (arith, within);
          is = omega (
            arith,
            within,
            length-append (take at values) (drop (at + 1) values),
            length-take at values,
            length-drop (at + 1) values,
          );
        };
        few = omega arith;
        freed = value_size old;
        taken = 0;
        bytes = after_head 4 (item_removed value_size values at old (sym here));
        freed_is = less;
        taken_is = refl;
      }
  slot_gone _ old freed here less = cc

  pub slot_not_added : (one : Body) (new : Value) → ((values : List Value) → one ≡ body.Plain values → ⊥)
      → with_slot_more at new one ≡ one
  slot_not_added (body.Plain values) new not = absurd (not values refl)
  slot_not_added _ new not = refl

  pub slot_added : (one : Body) (values : List Value) → one ≡ body.Plain values → (new : Value) (taken : ℕ)
      → taken ≡ counted (value_size new)
      → Changes (record { slots_freed = 0; slots_taken = 1; bytes_freed = 0; bytes_taken = taken }) one
      (with_slot_more at new one)
  slot_added (body.Plain values) _ is new taken more = record {
    slots = record {
      had = omega arith;
      is = omega (
        arith,
        length-append (take at values) (new ∷ drop at values),
        length-append (take at values) (drop at values),
        ap length (take-append-drop at values),
      );
    };
    few = omega arith;
    freed = 0;
    taken = value_size new;
    bytes = record { had = omega arith; is = omega (arith, item_inserted value_size values at new) };
    freed_is = refl;
    taken_is = more;
  }
  slot_added _ values is new taken more = cc

-- ---- pairs

equal_by : (order : Ordering) → is_eq order ≡ true → order ≡ Equal
equal_by Less is = absurd (false≢true is)
equal_by Equal is = refl
equal_by Greater is = absurd (false≢true is)

alike : (key other : Value) → same_value key other ≡ true → value_size other ≡ value_size key
alike key other same = ap value_size (sym (ties key other (equal_by (value_order key other) same)))

module _ (key : Value) where
  pub pair_not_there : (body : Body) → None ≡ value_at key body → without_value_at key body ≡ body
  pair_not_there (body.Dict pairs) none = ap body.Dict (key_not_there same_value key pairs (sym none))
  pair_not_there _ none = refl

  pub pair_set : (body : Body) (old new : Value) (freed taken : ℕ) → Some old ≡ value_at key body
      → freed ≡ counted (value_size old) → taken ≡ counted (value_size new)
      → Changes (record { slots_freed = 0; slots_taken = 0; bytes_freed = freed; bytes_taken = taken }) body
      (with_value_at key new body)
  pair_set (body.Dict pairs) old new freed taken here less more = record {
    slots = record { had = omega arith; is = omega (arith, value_put_long same_value key old new pairs (sym here)) };
    few = omega arith;
    freed = value_size old;
    taken = value_size new;
    bytes = after_head 4 (value_put same_value key old new pairs (sym here));
    freed_is = less;
    taken_is = more;
  }
  pair_set _ old new freed taken here less more = cc

  pub pair_not_put : (one : Body) (new : Value) → ((pairs : List (Value × Value)) → one ≡ body.Dict pairs → ⊥)
      → with_value_at key new one ≡ one
  pair_not_put (body.Dict pairs) new not = absurd (not pairs refl)
  pair_not_put _ new not = refl

  pub pair_new : (one : Body) (pairs : List (Value × Value)) → one ≡ body.Dict pairs → (new : Value) (taken : ℕ)
      → None ≡ value_at key one → taken ≡ counted (pair_size (key, new))
      → Changes (record { slots_freed = 0; slots_taken = 2; bytes_freed = 0; bytes_taken = taken }) one
      (with_value_at key new one)
  pair_new (body.Dict pairs) _ is new taken none more = record {
    slots = record { had = omega arith; is = omega (arith, pair_added_long same_value key new pairs (sym none)) };
    few = omega arith;
    freed = 0;
    taken = pair_size (key, new);
    bytes = record { had = omega arith; is = omega (arith, pair_added same_value key new pairs (sym none)) };
    freed_is = refl;
    taken_is = more;
  }
  pair_new _ pairs is new taken none more = cc

  pub pair_away : (body : Body) (old : Value) (freed : ℕ) → Some old ≡ value_at key body
      → freed ≡ counted (pair_size (key, old))
      → Changes (record { slots_freed = 2; slots_taken = 0; bytes_freed = freed; bytes_taken = 0 }) body
      (without_value_at key body)
  pair_away (body.Dict pairs) old freed here less =
      let long : length (without_key same_value key pairs) + 1 ≡ length pairs =
      pair_gone_long same_value key old pairs (sym here) in
      record {
        slots = record { had = omega (arith, long); is = omega (arith, long) };
        few = omega arith;
        freed = pair_size (key, old);
        taken = 0;
        bytes = after_head 4 (pair_gone same_value key (alike key) old pairs (sym here));
        freed_is = less;
        taken_is = refl;
      }
  pair_away _ old freed here less = cc

-- ---- bytes

-- a byte in the place of another one
pub byte_set : {change : Change} → ((one : Body) → Changes change one one) → (at byte : ℕ) (one : Body)
    → Changes change one (with_byte at byte one)
byte_set {change} each at byte (body.Bytes bytes) =
    let old : Changes change (body.Bytes bytes) (body.Bytes bytes) = each (body.Bytes bytes) in
    record {
      slots = old.slots;
      few = old.few;
      freed = old.freed;
      taken = old.taken;
      bytes = subst (λ (n : ℕ). Shifts (4 + length bytes) old.freed old.taken (4 + n)) (sym (length-set bytes at byte)) old.bytes;
      freed_is = old.freed_is;
      taken_is = old.taken_is;
    }
byte_set each at byte one = each one

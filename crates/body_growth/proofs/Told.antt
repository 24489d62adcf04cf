-- What each update of a reduced-conflict body changes.
use Rattle.std.proofs.Common.{◌≡◌, ◌∙◌, rules, refl, sym, ap, subst, ℕ, zero, suc, ℤ, ◌+◌, ◌<◌, ◌≤◌, true, List, [], ◌∷◌, ◌++◌, Option, Some, None, option_map, is_some, if◌then◌else◌, length, set, get_or, arith}
use Rattle.std.specs.List.{AllByRecursion, sum_by, slice_get, remove}
use Rattle.std.specs.Option.{ok_or}
use Rattle.std.specs.Ordering.{is_eq}
use Rattle.std.specs.Result.{result_ok}
use Rattle.std.proofs.Math.Path.{fun_ext}
use Rattle.std.proofs.lemmas.Option.{same_Some, none-some}
use Rattle.std.proofs.lemmas.List.{length-set, length-append}
use Rattle.std.proofs.lemmas.List.Edits.{length-insert, length-remove}
use Rattle.std.proofs.lemmas.List.Sums.{sum_by-cons, sum_by-append, sum_by-insert, sum_by-remove}
use Rattle.sorted_pairs.specs.Place.{StandsAt, FitsAt}
use Rattle.gem_object.specs.Order.{value_order}
use Rattle.gem_object.specs.Sizes.{value_size, pair_size, occurrences_size}
use Rattle.gem_object.specs.contracts.value.ValueOrd.TheImpl as order
use Rattle.gem_object.specs.declared.value.Value.{Value}
use Rattle.gem_object.specs.declared.body.Body.{Body}
use Rattle.gem_object.specs.declared.body.Body.TheVariants as body
use Rattle.gem_object.specs.rc_counter_bag.Bag.{one_more, one_less, with_one_more, with_one_less}
use Rattle.gem_object.specs.rc_counter_bag.declared.counter.Counter.{Counter}
use Rattle.gem_object.specs.rc_counter_bag.declared.counter.CounterRange.{CounterRange}
use Rattle.gem_object.specs.rc_counter_bag.declared.update.BagFault.TheVariants as bag_fault
use Rattle.gem_object.proofs.rc_counter_bag_lemmas.Edits as bags
use Rattle.gem_object.specs.rc_dict.Dict.{entry, put, without}
use Rattle.gem_object.specs.rc_dict.declared.update.DictFault.TheVariants as dict_fault
use Rattle.gem_object.proofs.rc_dict_lemmas.Edits as dicts
use Rattle.gem_object.specs.rc_queue.Contents.{Contents}
use Rattle.gem_object.specs.rc_queue.Update.{without_front, one_removal_more}
use Rattle.gem_object.specs.rc_queue.declared.update.QueueFault.TheVariants as queue_fault
use Rattle.body_growth.specs.declared.change.Change.{Change}
use Rattle.body_growth.specs.Changes.{Shifts, Changes, Tells, counted}
use Rattle.body_growth.proofs.Sums.{item_put}
use Rattle.body_growth.proofs.Changes.{changed_as, after_head}

-- ---- what is told

pub tells_none : (old : Body) (new : Option Body) → new ≡ None → Tells None old new
tells_none old new none = record {
  taken = sym (ap is_some none);
  changes = λ change after told. absurd (none-some change told);
}

pub tells_some : (change : Change) (old : Body) (new : Option Body) (after : Body) → new ≡ Some after → Changes change old after
    → Tells (Some change) old new
tells_some change old new after is changes = record {
  taken = sym (ap is_some is);
  changes = λ other new_one told there.
      subst (λ (one : Change). Changes one old new_one) (same_Some change other told)
      (subst (λ (one : Body). Changes change old one) (same_Some after new_one (sym is ∙ there)) changes);
}

-- ---- the order that the search goes by

in_order : (value other : Value) → order.ghosts.cmp value other ≡ value_order value other
in_order = search rules

orders : order.ghosts.cmp ≡ value_order
orders = fun_ext (λ value. fun_ext (in_order value))

module _ {X : Type 0} (key : Value) (pairs : List (Value × X)) (at : ℕ) where
  stands : StandsAt order.ghosts.cmp key pairs at → StandsAt value_order key pairs at
  stands = subst (λ cmp. StandsAt cmp key pairs at) orders

  fits : FitsAt order.ghosts.cmp key pairs at → FitsAt value_order key pairs at
  fits = subst (λ cmp. FitsAt cmp key pairs at) orders

-- ---- counters

abbrev counter_of : ℤ → Counter
counter_of value = record { value = value }

abbrev no_range : CounterRange
no_range = record {}

abbrev counter_after : Option ℤ → Option Body
counter_after value = option_map body.Counter (result_ok (ok_or
    (option_map counter_of value) no_range))

-- a counter's value counts nothing
counter_kept : {change : Change} → ((one : Body) → Changes change one one) → (old new : Counter)
    → Changes change (body.Counter old) (body.Counter new)
counter_kept each old new =
    let same = each (body.Counter old) in
    record {
      slots = same.slots;
      few = same.few;
      freed = same.freed;
      taken = same.taken;
      bytes = same.bytes;
      freed_is = same.freed_is;
      taken_is = same.taken_is;
    }

pub counter_told : {change : Change} → ((one : Body) → Changes change one one) → (old new : Counter) (value : Option ℤ)
    → value ≡ Some new.value → Tells (Some change) (body.Counter old) (counter_after value)
counter_told {change} each old new value is =
    tells_some change (body.Counter old) _ (body.Counter new) (ap counter_after is) (counter_kept each old new)

-- ---- bags

-- each item of a bag occurs
pub occurs : (pairs : List (Value × ℕ)) (at : ℕ) (pair : Value × ℕ) → AllByRecursion (λ one. 0 < one.1) pairs → at < length pairs
    → pair ≡ get_or pairs at pair → 0 < pair.1
occurs [] at pair each within read = absurd (omega (arith, within))
occurs (first ∷ rest) zero pair each within read = subst (λ (one : Value × ℕ). 0 < one.1) (sym read) each.0
occurs (first ∷ rest) (suc at) pair each within read = occurs rest at pair each.1 (omega (arith, within)) read

-- a number that went and came again
moved : {old freed taken new : ℕ} → Shifts old freed taken new → (less more : ℕ) → less ≤ freed → taken + less ≡ freed + more
    → Shifts old less more new
moved shifts less more below even = record {
  had = omega (arith, below, shifts.had);
  is = omega (arith, even, shifts.is, shifts.had);
}

-- an item goes that stands at a place
item_taken : {X : Type 0} (f : X → ℕ) (xs : List X) (at : ℕ) (old : X) → at < length xs → old ≡ get_or xs at old
    → Shifts (sum_by f xs) (f old) 0 (sum_by f (remove xs at))
item_taken f xs at old within read =
    let size : f (get_or xs at old) ≡ f old = ap f (sym read) in
    let left = sum_by-remove f xs at old within in
    record { had = omega (arith, size, left); is = omega (arith, size, left) }

abbrev bag_after : Option (List (Value × ℕ)) → Option Body
bag_after pairs = option_map body.Bag (result_ok (ok_or pairs (bag_fault.Missing 0)))

module _ (item : Value) (pairs : List (Value × ℕ)) (at : ℕ) where
  -- an item that doesn't occur yet
  pub item_new : (taken : ℕ) → FitsAt order.ghosts.cmp item pairs at → taken ≡ counted (value_size item + 8)
      → Changes (record { slots_freed = 0; slots_taken = 1; bytes_freed = 0; bytes_taken = taken }) (body.Bag pairs)
      (body.Bag (with_one_more value_order item pairs))
  item_new taken there is =
      changed_as (ap body.Bag (bags.with_one_more-fits value_order item pairs at (fits item pairs at there))) (record {
        slots = record { had = omega arith; is = omega (arith, sum_by-insert (λ (pair : Value × ℕ). pair.1) pairs at (item, 1)) };
        few = omega arith;
        freed = 0;
        taken = value_size item + 8;
        bytes = record { had = omega arith; is = omega (arith, sum_by-insert occurrences_size pairs at (item, 1)) };
        freed_is = refl;
        taken_is = is;
      })

  -- one occurrence more of an item
  pub item_more : (pair : Value × ℕ) (more : ℕ) → StandsAt order.ghosts.cmp item pairs at → at < length pairs
      → pair ≡ get_or pairs at pair → one_more pair.1 ≡ pair.1 + more
      → Changes (record { slots_freed = 0; slots_taken = more; bytes_freed = 0; bytes_taken = 0 }) (body.Bag pairs)
      (body.Bag (with_one_more value_order item pairs))
  item_more pair more there within read grown =
      changed_as (ap body.Bag (bags.with_one_more-stands value_order item pairs at pair (stands item pairs at there) read)) (record {
        slots = moved (item_put (λ (one : Value × ℕ). one.1) pairs at pair (pair.0, one_more pair.1) within read) 0 more
            (omega arith) (omega (arith, grown));
        few = omega arith;
        freed = 0;
        taken = 0;
        bytes = after_head 4 (moved (item_put occurrences_size pairs at pair (pair.0, one_more pair.1) within read) 0 0
            (omega arith) (omega arith));
        freed_is = refl;
        taken_is = refl;
      })

  -- an item whose only occurrence goes
  pub item_gone : (pair : Value × ℕ) (freed : ℕ) → StandsAt order.ghosts.cmp item pairs at → at < length pairs
      → pair ≡ get_or pairs at pair → pair.1 ≡ 1 → freed ≡ counted (value_size pair.0 + 8)
      → Tells (Some (record { slots_freed = 1; slots_taken = 0; bytes_freed = freed; bytes_taken = 0 })) (body.Bag pairs)
      (bag_after (with_one_less value_order item pairs))
  item_gone pair freed there within read last is =
      tells_some _ (body.Bag pairs) _ (body.Bag (remove pairs at))
      (ap bag_after (bags.with_one_less-last value_order item pairs at pair (stands item pairs at there) read last)) (record {
        slots = moved (item_taken (λ (one : Value × ℕ). one.1) pairs at pair within read) 1 0 (omega (arith, last)) (omega (arith, last));
        few = omega arith;
        freed = value_size pair.0 + 8;
        taken = 0;
        bytes = after_head 4 (item_taken occurrences_size pairs at pair within read);
        freed_is = is;
        taken_is = refl;
      })

  -- one occurrence less of an item
  pub item_less : (pair : Value × ℕ) (less : ℕ) → StandsAt order.ghosts.cmp item pairs at → at < length pairs
      → pair ≡ get_or pairs at pair → (pair.1 ≡ 1 → ⊥) → one_less pair.1 + less ≡ pair.1 → less ≤ 1
      → Tells (Some (record { slots_freed = less; slots_taken = 0; bytes_freed = 0; bytes_taken = 0 })) (body.Bag pairs)
      (bag_after (with_one_less value_order item pairs))
  item_less pair less there within read more shrunk few =
      tells_some _ (body.Bag pairs) _ (body.Bag (set pairs at (pair.0, one_less pair.1)))
      (ap bag_after (bags.with_one_less-written value_order item pairs at pair pair (stands item pairs at there) within read read more))
      (record {
        slots = moved (item_put (λ (one : Value × ℕ). one.1) pairs at pair (pair.0, one_less pair.1) within read) less 0
            (omega (arith, shrunk)) (omega (arith, shrunk));
        few = omega (arith, few);
        freed = 0;
        taken = 0;
        bytes = after_head 4 (moved (item_put occurrences_size pairs at pair (pair.0, one_less pair.1) within read) 0 0
            (omega arith) (omega arith));
        freed_is = refl;
        taken_is = refl;
      })

  -- an item that doesn't occur
  pub item_missing : FitsAt order.ghosts.cmp item pairs at → Tells None (body.Bag pairs) (bag_after (with_one_less value_order item pairs))
  item_missing there = tells_none (body.Bag pairs) _ (ap bag_after ((bags.absent value_order item pairs at (fits item pairs at there)).1))

-- ---- dictionaries

abbrev dict_after : Option (List (Value × Value)) → Option Body
dict_after pairs = option_map body.RcDict (result_ok (ok_or pairs (dict_fault.Key 0)))

module _ (key : Value) (pairs : List (Value × Value)) (at : ℕ) where
  -- a key that has no value yet
  pub key_new : (value : Value) (taken : ℕ) → FitsAt order.ghosts.cmp key pairs at → at ≤ length pairs
      → taken ≡ counted (pair_size (key, value))
      → Changes (record { slots_freed = 0; slots_taken = 2; bytes_freed = 0; bytes_taken = taken }) (body.RcDict pairs)
      (body.RcDict (put value_order key value pairs))
  key_new value taken there within is =
      changed_as (ap body.RcDict (dicts.put-fits value_order key value pairs at (fits key pairs at there))) (record {
        slots = record { had = omega arith; is = omega (arith, length-insert pairs at (key, value) within) };
        few = omega arith;
        freed = 0;
        taken = pair_size (key, value);
        bytes = record { had = omega arith; is = omega (arith, sum_by-insert pair_size pairs at (key, value)) };
        freed_is = refl;
        taken_is = is;
      })

  -- another value of a key
  pub key_set : (value : Value) (pair : Value × Value) (freed taken : ℕ) → StandsAt order.ghosts.cmp key pairs at → at < length pairs
      → pair ≡ get_or pairs at pair → freed ≡ counted (pair_size pair) → taken ≡ counted (pair_size (key, value))
      → Changes (record { slots_freed = 0; slots_taken = 0; bytes_freed = freed; bytes_taken = taken }) (body.RcDict pairs)
      (body.RcDict (put value_order key value pairs))
  key_set value pair freed taken there within read less more =
      changed_as (ap body.RcDict (dicts.put-stands value_order key value pairs at (stands key pairs at there))) (record {
        slots = record { had = omega arith; is = omega (arith, length-set pairs at (key, value)) };
        few = omega arith;
        freed = pair_size pair;
        taken = pair_size (key, value);
        bytes = after_head 4 (item_put pair_size pairs at pair (key, value) within read);
        freed_is = less;
        taken_is = more;
      })

  abbrev removed_at : Option Value → Option (List (Value × Value))
  removed_at found = if is_some found then Some (without value_order key pairs) else None

  -- a key's pair goes
  pub key_gone : (pair : Value × Value) (freed : ℕ) → StandsAt order.ghosts.cmp key pairs at → at < length pairs
      → pair ≡ get_or pairs at pair → freed ≡ counted (pair_size pair)
      → Tells (Some (record { slots_freed = 2; slots_taken = 0; bytes_freed = freed; bytes_taken = 0 })) (body.RcDict pairs)
      (dict_after (removed_at (entry value_order key pairs)))
  key_gone pair freed there within read is =
      let long : length (remove pairs at) + 1 ≡ length pairs = length-remove pairs at within in
      let found = stands key pairs at there in
      tells_some _ (body.RcDict pairs) _ (body.RcDict (remove pairs at))
      (ap (λ o. dict_after (removed_at o)) (dicts.entry-stands value_order key pairs at pair found)
      ∙ ap (λ rest. dict_after (Some rest)) (dicts.without-stands value_order key pairs at found)) (record {
        slots = record { had = omega (arith, long); is = omega (arith, long) };
        few = omega arith;
        freed = pair_size pair;
        taken = 0;
        bytes = after_head 4 (item_taken pair_size pairs at pair within read);
        freed_is = is;
        taken_is = refl;
      })

  -- a key that has no value
  pub key_missing : FitsAt order.ghosts.cmp key pairs at
      → Tells None (body.RcDict pairs) (dict_after (removed_at (entry value_order key pairs)))
  key_missing there = tells_none (body.RcDict pairs) _
      (ap (λ o. dict_after (removed_at o)) ((dicts.absent value_order key pairs at (fits key pairs at there)).0))

-- ---- queues

abbrev queue_after : Option (Contents Value) → Option Body
queue_after queue = option_map body.Queue (result_ok (ok_or queue (queue_fault.Remove 0)))

-- an item comes to the back
pub item_queued : (queue : Contents Value) (item : Value) (taken : ℕ) → taken ≡ counted (value_size item)
    → Tells (Some (record { slots_freed = 0; slots_taken = 1; bytes_freed = 0; bytes_taken = taken })) (body.Queue queue)
    (queue_after (Some (record { removed = queue.removed; items = queue.items ++ item ∷ [] })))
item_queued queue item taken is =
    let sum = sum_by-append value_size queue.items (item ∷ []) in
    let one = sum_by-cons value_size item [] in
    tells_some _ (body.Queue queue) _ (body.Queue (record { removed = queue.removed; items = queue.items ++ item ∷ [] })) refl (record {
      slots = record { had = omega arith; is = omega (arith, length-append queue.items (item ∷ [])) };
      few = omega arith;
      freed = 0;
      taken = value_size item;
      bytes = record { had = omega arith; is = omega (arith, sum, one) };
      freed_is = refl;
      taken_is = is;
    })

module _ (item : Value) (removed : ℕ) where
  -- the front goes, which is the item
  pub front_gone : (items : List Value) (front : Value) (freed : ℕ) → Some front ≡ slice_get items 0
      → is_eq (order.ghosts.cmp front item) ≡ true → freed ≡ counted (value_size front)
      → Tells (Some (record { slots_freed = 1; slots_taken = 0; bytes_freed = freed; bytes_taken = 0 }))
      (body.Queue (record { removed = removed; items = items })) (queue_after (without_front value_order item removed items))
  front_gone [] front freed there same is = cc
  front_gone (first ∷ rest) front freed there same is =
      let one : first ≡ front = same_Some first front (sym there) in
      let size : value_size first ≡ value_size front = ap value_size one in
      let left : Contents Value = record { removed = one_removal_more removed; items = rest } in
      tells_some _ (body.Queue (record { removed = removed; items = first ∷ rest })) _ (body.Queue left)
      (ap (λ b. queue_after (if b then Some left else None)) (ap (λ v. is_eq (value_order v item)) one ∙ ap is_eq (sym (in_order front item)) ∙ same)) (record {
        slots = record { had = omega arith; is = omega arith };
        few = omega arith;
        freed = value_size front;
        taken = 0;
        bytes = record {
          had = omega (arith, size, sum_by-cons value_size first rest);
          is = omega (arith, size, sum_by-cons value_size first rest);
        };
        freed_is = is;
        taken_is = refl;
      })

-- A body that can be stored can be after an update or a merge with values that can be, where its
-- pairs or items can be counted.
use Rattle.std.proofs.Common.{◌≡◌, ℕ, ℤ, ◌+ℤ◌, ◌<◌, ◌^◌, Bool, true, false, cond, IsTrue, List, [], ◌∷◌, length, Some, None, Ok, refl, sym, ap, subst}
use Rattle.std.specs.List.{All}
use Rattle.std.proofs.lemmas.List.Elements.{All-nil, All-cons, All-head, All-tail, All-weaker}
use Rattle.std.proofs.lemmas.Option.{option_and_then_some}
use Rattle.gem_object.specs.texts.SmallInteger.{is_small_integer}
use Rattle.gem_object.specs.Order.{value_order}
use Rattle.gem_object.specs.Spelling.{IsStorable, IsStorablePair, IsItems, IsKeyDictionary, is_key, IsSpelledBody}
use Rattle.gem_object.specs.declared.value.Value.{Value}
use Rattle.gem_object.specs.declared.body.Body.{Body}
use Rattle.gem_object.specs.declared.body.Body.TheVariants as body
use Rattle.gem_object.specs.rc_counter_bag.Counter as counters
use Rattle.gem_object.specs.rc_counter_bag.Bag as bags
use Rattle.gem_object.specs.rc_counter_bag.declared.counter.Counter.{Counter}
use Rattle.gem_object.specs.rc_counter_bag.declared.update.BagUpdate.{BagUpdate}
use Rattle.gem_object.specs.rc_counter_bag.declared.update.BagFault.TheVariants as bag_fault
use Rattle.gem_object.specs.rc_dict.Dict as dicts
use Rattle.gem_object.specs.rc_dict.declared.update.DictUpdate.{DictUpdate}
use Rattle.gem_object.specs.rc_dict.declared.update.DictFault.TheVariants as dict_fault
use Rattle.gem_object.specs.rc_queue.Update as queues
use Rattle.gem_object.specs.rc_queue.declared.update.QueueUpdate.{QueueUpdate}
use Rattle.gem_object.specs.rc_queue.declared.update.QueueFault.TheVariants as queue_fault
use Rattle.gem_update.specs.Outcomes.{counter_or_range, counter_updated, counter_merged, bag_updated, bag_merged, dict_updated, dict_merged, queue_updated, queue_merged}
use Rattle.gem_update.specs.Update.{updated, merged, all_changes, counter_change, bag_change, dict_change, queue_change}
use Rattle.gem_update.specs.Spelling.{IsStorableUpdate, entries_of}
use Rattle.gem_update.specs.declared.update.Update.{Update}
use Rattle.gem_update.specs.declared.update.Update.TheVariants as change
use Rattle.gem_update.proofs.Kept.{IsOccurring, AreItems, IsEntry, AreEntries, bag_updated_kept, bag_merged_kept, dict_updated_kept, dict_merged_kept, dict_not_changed, queue_updated_kept, queue_merged_kept, queue_not_refused}
use Rattle.gem_update.proofs.Accepted.{accepted, some_if_ok, ok_if_ok, each_change}

-- ---- counters

in_range : (value : ℤ) (b : Bool) (counter : Counter) → b ≡ is_small_integer value
    → counter_or_range (cond b (Some value) None) ≡ Ok counter
    → IsTrue (is_small_integer counter.value)
in_range value true counter is e =
    let same : value ≡ counter.value = ap (λ (c : Counter). c.value) (ok_counter e) in
    subst (λ v. IsTrue (is_small_integer v)) same (sym is)
  where
    ok_counter : {value : ℤ} {counter : Counter} → counter_or_range (Some value) ≡ Ok counter
        → record { value = value } ≡ counter
    ok_counter e = cc
in_range value false counter is e = absurd (cc)

counter_spelled : (value : ℤ) (counter : Counter)
    → counter_or_range (counters.small_integer value) ≡ Ok counter
    → IsSpelledBody (body.Counter counter)
counter_spelled value counter e = in_range value (is_small_integer value) counter refl e

-- ---- bags

both : (pairs : List (Value × ℕ)) → All (λ pair. IsStorable pair.0) pairs
    → All (λ pair. (0 < pair.1) × (pair.1 < 2 ^ 64)) pairs → All IsOccurring pairs
both [] each occur = All-nil IsOccurring
both (pair ∷ rest) each occur = All-cons IsOccurring pair rest (
  All-head (λ p. IsStorable p.0) pair rest each,
  All-head (λ p. (0 < p.1) × (p.1 < 2 ^ 64)) pair rest occur,
)
    (both rest (All-tail (λ p. IsStorable p.0) pair rest each)
    (All-tail (λ p. (0 < p.1) × (p.1 < 2 ^ 64)) pair rest occur))

items : (pairs : List (Value × ℕ)) → IsItems pairs → AreItems pairs
items pairs is = record { each = both pairs is.each is.occur; ascend = is.ascend }

items_spelled : (pairs : List (Value × ℕ)) → AreItems pairs → length pairs < 2 ^ 32 → IsItems pairs
items_spelled pairs are count = record {
  count = count;
  each = All-weaker IsOccurring (λ pair. IsStorable pair.0) (λ pair is. is.0) pairs are.each;
  ascend = are.ascend;
  occur = All-weaker IsOccurring (λ pair. (0 < pair.1) × (pair.1 < 2 ^ 64)) (λ pair is. is.1) pairs are.each;
}

-- ---- dictionaries

entries : (pairs : List (Value × Value)) → IsKeyDictionary pairs → AreEntries pairs
entries pairs is = record { each = each_entry pairs is.each is.keys; ascend = is.ascend }
  where
    each_entry : (pairs : List (Value × Value)) → All IsStorablePair pairs
        → All (λ pair. IsTrue (is_key pair.0)) pairs → All IsEntry pairs
    each_entry [] each keys = All-nil IsEntry
    each_entry (pair ∷ rest) each keys = All-cons IsEntry pair rest
        (All-head IsStorablePair pair rest each, All-head (λ p. IsTrue (is_key p.0)) pair rest keys)
        (each_entry rest (All-tail IsStorablePair pair rest each)
        (All-tail (λ p. IsTrue (is_key p.0)) pair rest keys))

entries_spelled : (pairs : List (Value × Value)) → AreEntries pairs → length pairs < 2 ^ 32
    → IsKeyDictionary pairs
entries_spelled pairs are count = record {
  count = count;
  each = All-weaker IsEntry IsStorablePair (λ pair is. is.0) pairs are.each;
  ascend = are.ascend;
  keys = All-weaker IsEntry (λ pair. IsTrue (is_key pair.0)) (λ pair is. is.1) pairs are.each;
}

-- ---- over bodies

bag_back : (update : Update) (c : BagUpdate Value) → bag_change update ≡ Some c
    → update ≡ change.Bag c
bag_back (change.Bag update) c e = cc
bag_back _ c e = absurd (cc)

dict_back : (update : Update) (c : DictUpdate Value Value) → dict_change update ≡ Some c
    → update ≡ change.RcDict c
dict_back (change.RcDict update) c e = cc
dict_back _ c e = absurd (cc)

queue_back : (update : Update) (c : QueueUpdate Value) → queue_change update ≡ Some c
    → update ≡ change.Queue c
queue_back (change.Queue update) c e = cc
queue_back _ c e = absurd (cc)

-- a body of which all but the count is known
spelled_as : {X : Type 0} (made : X → Body) (x : X) (after : Body) → made x ≡ after
    → (entries_of (made x) < 2 ^ 32 → IsSpelledBody (made x)) → entries_of after < 2 ^ 32
    → IsSpelledBody after
spelled_as made x after same spelled count =
    subst (λ b. entries_of b < 2 ^ 32 → IsSpelledBody b) same spelled count

pub updated_spelled : (update : Update) (before after : Body) → IsSpelledBody before
    → IsStorableUpdate update → updated update before ≡ Some after → entries_of after < 2 ^ 32
    → IsSpelledBody after
updated_spelled (change.Counter by) (body.Counter counter) after is storable e count =
    accepted body.Counter (counter_updated by counter) after e (λ x ok same.
    spelled_as body.Counter x after same (λ _. counter_spelled (counter.value +ℤ by) x ok) count)
updated_spelled (change.Bag update) (body.Bag pairs) after is storable e count =
    accepted body.Bag (bag_updated update pairs) after e (λ x ok same.
    spelled_as body.Bag x after same
    (items_spelled x (bag_updated_kept update pairs x (items pairs is) storable
    (some_if_ok (bags.updated value_order update pairs) (bag_fault.Missing 0) x ok))) count)
updated_spelled (change.RcDict update) (body.RcDict pairs) after is storable e count =
    accepted body.RcDict (dict_updated update pairs) after e (λ x ok same.
    spelled_as body.RcDict x after same
    (entries_spelled x (dict_updated_kept update pairs x (entries pairs is) storable
    (some_if_ok (dicts.updated value_order update pairs) (dict_fault.Key 0) x ok))) count)
updated_spelled (change.Queue update) (body.Queue q) after is storable e count =
    accepted body.Queue (queue_updated update q) after e (λ x ok same.
    spelled_as body.Queue x after same
    (λ c. let are = queue_updated_kept update q x (record { removed = is.0; each = is.1.each }) storable
    (some_if_ok (queues.updated value_order update q) (queue_fault.Remove 0) x ok) in
    (are.removed, record { count = c; each = are.each })) count)
updated_spelled _ _ after is storable e count = absurd (cc)

pub merged_spelled : (view place after : Body) (updates : List Update) → IsSpelledBody place
    → All IsStorableUpdate updates → merged view place updates ≡ Some after
    → entries_of after < 2 ^ 32 → IsSpelledBody after
merged_spelled (body.Counter view) (body.Counter place) after updates is storable e count =
    option_and_then_some _ (all_changes counter_change updates) after e (λ changes all made.
    accepted body.Counter (counter_merged view place changes) after made (λ x ok same.
    spelled_as body.Counter x after same (λ _. counter_spelled (place.value +ℤ counters.total changes) x ok) count))
merged_spelled (body.Bag view) (body.Bag place) after updates is storable e count =
    option_and_then_some _ (all_changes bag_change updates) after e (λ changes all made.
    accepted body.Bag (bag_merged view place changes) after made (λ x ok same.
    let each = each_change bag_change change.Bag bag_back IsStorableUpdate updates changes all storable in
    let replay = ok_if_ok bag_fault.Missing (bags.merged value_order view place changes) x ok in
    spelled_as body.Bag x after same
    (items_spelled x (bag_merged_kept 0 changes place x (items place is) each replay)) count))
merged_spelled (body.RcDict view) (body.RcDict place) after updates is storable e count =
    option_and_then_some _ (all_changes dict_change updates) after e (λ changes all made.
    accepted body.RcDict (dict_merged view place changes) after made (λ x ok same.
    let each = each_change dict_change change.RcDict dict_back IsStorableUpdate updates changes all storable in
    let merge = ok_if_ok dict_fault.Key (dicts.merged value_order value_order view place changes) x ok in
    let settled = dict_not_changed (dicts.first_changed value_order value_order view place 0 changes)
    (dicts.all_settled value_order changes place) x merge in
    spelled_as body.RcDict x after same (entries_spelled x
    (subst AreEntries settled (dict_merged_kept changes place (entries place is) each))) count))
merged_spelled (body.Queue view) (body.Queue place) after updates is storable e count =
    option_and_then_some _ (all_changes queue_change updates) after e (λ changes all made.
    accepted body.Queue (queue_merged view place changes) after made (λ x ok same.
    let each = each_change queue_change change.Queue queue_back IsStorableUpdate updates changes all storable in
    let merge = ok_if_ok queue_fault.Remove (queues.merged value_order view place changes) x ok in
    let replay = queue_not_refused (queues.removed_since view place changes)
    (queues.replayed value_order 0 changes place) x merge in
    spelled_as body.Queue x after same
    (λ c. let are = queue_merged_kept 0 changes place x (record { removed = is.0; each = is.1.each }) each replay in
    (are.removed, record { count = c; each = are.each })) count))
merged_spelled _ _ after updates is storable e count = absurd (cc)

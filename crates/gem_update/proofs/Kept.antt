-- An update or a merge with values that can be stored keeps all that a stored object has, but for
-- the count of its pairs or items.
use Rattle.std.proofs.Common.{◌≡◌, ◌==◌, ℕ, ◌+◌, ◌<◌, ◌^◌, Bool, true, false, cond, IsTrue, List, [], ◌∷◌, ◌++◌, Option, Some, None, Result, Ok, refl, subst, arith}
use Rattle.std.specs.List.{All, AllByRecursion}
use Rattle.std.specs.Option.{is_some}
use Rattle.std.specs.Ordering.{is_eq}
use Rattle.std.specs.Cmp.{IsTotalOrder}
use Rattle.std.proofs.lemmas.Bool.Decides.{nat_tests}
use Rattle.std.proofs.lemmas.List.Elements.{All-head, All-tail, All-append}
use Rattle.std.proofs.lemmas.Option.{same_Some}
use Rattle.sorted_pairs.specs.Place.{Ascends}
use Rattle.gem_object.specs.Order.{value_order}
use Rattle.gem_object.specs.Spelling.{IsStorable, IsStorablePair, is_key}
use Rattle.gem_object.specs.contracts.value.ValueOrd.TheImpl.Laws.{total-law}
use Rattle.gem_object.specs.declared.value.Value.{Value}
use Rattle.gem_object.specs.rc_counter_bag.Bag as bags
use Rattle.gem_object.specs.rc_counter_bag.declared.update.BagUpdate.{BagUpdate}
use Rattle.gem_object.specs.rc_counter_bag.declared.update.BagUpdate.TheVariants as bag
use Rattle.gem_object.proofs.rc_counter_bag_lemmas.Kept.{IsBag-updated}
use Rattle.gem_object.specs.rc_dict.Dict as dicts
use Rattle.gem_object.specs.rc_dict.declared.update.DictUpdate.{DictUpdate}
use Rattle.gem_object.specs.rc_dict.declared.update.DictUpdate.TheVariants as dict
use Rattle.gem_object.proofs.rc_dict_lemmas.Kept.{IsDict-settled}
use Rattle.gem_object.specs.rc_queue.Contents.{Contents}
use Rattle.gem_object.specs.rc_queue.Update as queues
use Rattle.gem_object.specs.rc_queue.declared.update.QueueUpdate.{QueueUpdate}
use Rattle.gem_object.specs.rc_queue.declared.update.QueueUpdate.TheVariants as queue
use Rattle.gem_update.specs.Spelling.{IsStorableUpdate}
use Rattle.gem_update.specs.declared.update.Update.TheVariants.{Bag, RcDict, Queue}
use Rattle.gem_update.proofs.Order.{in_order}
use Rattle.gem_update.proofs.Each.{each_more, each_less, each_put, each_without}

total : IsTotalOrder value_order
total = in_order IsTotalOrder total-law

-- ---- bags

abbrev pub IsOccurring : Value × ℕ → Type 0
IsOccurring pair = IsStorable pair.0 × ((0 < pair.1) × (pair.1 < 2 ^ 64))

pub record AreItems (pairs : List (Value × ℕ)) : Type 0 where
  pub each : All IsOccurring pairs
  pub ascend : Ascends value_order pairs

one_more_fits : (n : ℕ) → 0 < n → (0 < bags.one_more n) × (bags.one_more n < 2 ^ 64)
one_more_fits n occurs = (omega arith, omega arith)

one_less_fits : (n : ℕ) → 0 < n → n < 2 ^ 64 → (n == 1) ≡ false
    → (0 < bags.one_less n) × (bags.one_less n < 2 ^ 64)
one_less_fits n occurs fits many = (grind (arith, nat_tests), grind (arith, nat_tests))

all_occur : (pairs : List (Value × ℕ)) → All IsOccurring pairs
    → AllByRecursion (λ pair. 0 < pair.1) pairs
all_occur [] all = tt
all_occur (pair ∷ rest) all = (
  (All-head IsOccurring pair rest all).1.0,
  all_occur rest (All-tail IsOccurring pair rest all),
)

as_bag : (pairs : List (Value × ℕ)) → AreItems pairs → bags.IsBag value_order pairs
as_bag pairs are = record { ascends = are.ascend; occur = all_occur pairs are.each }

each_updated : (update : BagUpdate Value) (pairs after : List (Value × ℕ)) → All IsOccurring pairs
    → IsStorableUpdate (Bag update) → bags.updated value_order update pairs ≡ Some after
    → All IsOccurring after
each_updated (bag.Add item) pairs after all storable e = subst (All IsOccurring) (same_Some _ after e)
    (each_more value_order item IsOccurring
    (All-head IsStorable item [] storable.values, (omega arith, omega arith))
    (λ pair fits. (fits.0, one_more_fits pair.1 fits.1.0)) pairs all)
each_updated (bag.Remove item) pairs after all storable e =
    each_less value_order item IsOccurring
    (λ pair fits many. (fits.0, one_less_fits pair.1 fits.1.0 fits.1.1 many)) pairs after all e

pub bag_updated_kept : (update : BagUpdate Value) (pairs after : List (Value × ℕ)) → AreItems pairs
    → IsStorableUpdate (Bag update) → bags.updated value_order update pairs ≡ Some after
    → AreItems after
bag_updated_kept update pairs after are storable e = record {
  each = each_updated update pairs after are.each storable e;
  ascend = (IsBag-updated value_order total update pairs after (as_bag pairs are) e).ascends;
}

went_on : {P : Type 0} (at : ℕ) (o : Option (List (Value × ℕ)))
    (rest : List (Value × ℕ) → Result (List (Value × ℕ)) ℕ) (after : List (Value × ℕ))
    → bags.and_then at o rest ≡ Ok after
    → ((pairs : List (Value × ℕ)) → o ≡ Some pairs → rest pairs ≡ Ok after → P) → P
went_on at None rest after e go = absurd (cc)
went_on at (Some pairs) rest after e go = go pairs refl e

pub bag_merged_kept : (at : ℕ) (updates : List (BagUpdate Value)) (pairs after : List (Value × ℕ))
    → AreItems pairs → All (λ update. IsStorableUpdate (Bag update)) updates
    → bags.replayed value_order at updates pairs ≡ Ok after → AreItems after
bag_merged_kept at [] pairs after are all e = subst AreItems (cc) are
bag_merged_kept at (update ∷ rest) pairs after are all e =
    let P = λ (u : BagUpdate Value). IsStorableUpdate (Bag u) in
    went_on at (bags.updated value_order update pairs) (bags.replayed value_order (at + 1) rest) after e
    (λ next is more. bag_merged_kept (at + 1) rest next after
    (bag_updated_kept update pairs next are (All-head P update rest all) is)
    (All-tail P update rest all) more)

-- ---- dictionaries

abbrev pub IsEntry : Value × Value → Type 0
IsEntry pair = IsStorablePair pair × IsTrue (is_key pair.0)

pub record AreEntries (pairs : List (Value × Value)) : Type 0 where
  pub each : All IsEntry pairs
  pub ascend : Ascends value_order pairs

each_settled : (update : DictUpdate Value Value) (pairs : List (Value × Value)) → All IsEntry pairs
    → IsStorableUpdate (RcDict update) → All IsEntry (dicts.settled value_order update pairs)
each_settled (dict.Put key value) pairs all storable =
    let key_stored = All-head IsStorable key (value ∷ []) storable.values in
    let value_stored = All-head IsStorable value [] (All-tail IsStorable key (value ∷ []) storable.values) in
    each_put value_order key IsEntry value ((key_stored, value_stored), storable.key) pairs all
each_settled (dict.Remove key) pairs all storable = each_without value_order key IsEntry pairs all

dict_settled_kept : (update : DictUpdate Value Value) (pairs : List (Value × Value))
    → AreEntries pairs → IsStorableUpdate (RcDict update)
    → AreEntries (dicts.settled value_order update pairs)
dict_settled_kept update pairs are storable = record {
  each = each_settled update pairs are.each storable;
  ascend = IsDict-settled value_order total update pairs are.ascend;
}

if_some : {X : Type 0} (b : Bool) (x after : X) → cond b (Some x) None ≡ Some after → x ≡ after
if_some true x after e = cc
if_some false x after e = absurd (cc)

as_settled : (update : DictUpdate Value Value) (pairs after : List (Value × Value))
    → dicts.updated value_order update pairs ≡ Some after
    → dicts.settled value_order update pairs ≡ after
as_settled (dict.Put key value) pairs after e = same_Some _ after e
as_settled (dict.Remove key) pairs after e =
    if_some (is_some (dicts.entry value_order key pairs)) (dicts.without value_order key pairs) after e

pub dict_updated_kept : (update : DictUpdate Value Value) (pairs after : List (Value × Value))
    → AreEntries pairs → IsStorableUpdate (RcDict update)
    → dicts.updated value_order update pairs ≡ Some after → AreEntries after
dict_updated_kept update pairs after are storable e =
    subst AreEntries (as_settled update pairs after e) (dict_settled_kept update pairs are storable)

pub dict_merged_kept : (updates : List (DictUpdate Value Value)) (pairs : List (Value × Value))
    → AreEntries pairs → All (λ update. IsStorableUpdate (RcDict update)) updates
    → AreEntries (dicts.all_settled value_order updates pairs)
dict_merged_kept [] pairs are all = are
dict_merged_kept (update ∷ rest) pairs are all =
    let P = λ (u : DictUpdate Value Value). IsStorableUpdate (RcDict u) in
    dict_merged_kept rest (dicts.settled value_order update pairs)
    (dict_settled_kept update pairs are (All-head P update rest all)) (All-tail P update rest all)

pub dict_not_changed : (changed : Option ℕ) (pairs after : List (Value × Value))
    → dicts.unless_changed changed pairs ≡ Ok after → pairs ≡ after
dict_not_changed None pairs after e = cc
dict_not_changed (Some at) pairs after e = absurd (cc)

-- ---- queues

pub record AreWaiting (q : Contents Value) : Type 0 where
  pub removed : q.removed < 2 ^ 64
  pub each : All IsStorable q.items

front_kept : (item : Value) (removed : ℕ) (items : List Value) (after : Contents Value)
    → All IsStorable items → queues.without_front value_order item removed items ≡ Some after
    → AreWaiting after
front_kept item removed [] after all e = absurd (cc)
front_kept item removed (front ∷ rest) after all e =
    let kept : AreWaiting (record { removed = queues.one_removal_more removed; items = rest })
    = record { removed = omega arith; each = All-tail IsStorable front rest all } in
    subst AreWaiting (if_some (is_eq (value_order front item)) _ after e) kept

pub queue_updated_kept : (update : QueueUpdate Value) (q after : Contents Value) → AreWaiting q
    → IsStorableUpdate (Queue update) → queues.updated value_order update q ≡ Some after
    → AreWaiting after
queue_updated_kept (queue.Add item) q after are storable e =
    let kept : AreWaiting (record { removed = q.removed; items = q.items ++ item ∷ [] })
    = record { removed = are.removed; each = All-append IsStorable q.items (item ∷ []) are.each storable.values } in
    subst AreWaiting (same_Some _ after e) kept
queue_updated_kept (queue.Remove item) q after are storable e =
    front_kept item q.removed q.items after are.each e

queue_went_on : {P : Type 0} (at : ℕ) (o : Option (Contents Value))
    (rest : Contents Value → Result (Contents Value) ℕ) (after : Contents Value)
    → queues.and_then at o rest ≡ Ok after
    → ((q : Contents Value) → o ≡ Some q → rest q ≡ Ok after → P) → P
queue_went_on at None rest after e go = absurd (cc)
queue_went_on at (Some q) rest after e go = go q refl e

pub queue_merged_kept : (at : ℕ) (updates : List (QueueUpdate Value)) (q after : Contents Value)
    → AreWaiting q → All (λ update. IsStorableUpdate (Queue update)) updates
    → queues.replayed value_order at updates q ≡ Ok after → AreWaiting after
queue_merged_kept at [] q after are all e = subst AreWaiting (cc) are
queue_merged_kept at (update ∷ rest) q after are all e =
    let P = λ (u : QueueUpdate Value). IsStorableUpdate (Queue u) in
    queue_went_on at (queues.updated value_order update q) (queues.replayed value_order (at + 1) rest) after e
    (λ next is more. queue_merged_kept (at + 1) rest next after
    (queue_updated_kept update q next are (All-head P update rest all) is)
    (All-tail P update rest all) more)

pub queue_not_refused : (refused : Option ℕ) (answer : Result (Contents Value) ℕ)
    (after : Contents Value) → queues.unless_refused refused answer ≡ Ok after → answer ≡ Ok after
queue_not_refused None answer after e = e
queue_not_refused (Some at) answer after e = absurd (cc)

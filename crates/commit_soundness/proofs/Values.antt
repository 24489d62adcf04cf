-- The values of reduced-conflict bodies. What an update brings was in the body or is in what the
-- update leaves of it; and what a merge leaves was at the place, or an update brought it.
use Rattle.std.proofs.Common.{◌≡◌, ◌==◌, refl, sym, ap, subst, ℕ, ◌+◌, Bool, true, false, cond, List, [], ◌∷◌, ◌++◌, Option, Some, None, Result, Ok, Err, Ordering, is_some, option_map}
use Rattle.std.specs.List.{AllByRecursion}
use Rattle.std.specs.Option.{ok_or, option_and_then}
use Rattle.std.specs.Ordering.{is_eq, match_ordering}
use Rattle.std.specs.Result.{result_ok}
use Rattle.std.specs.declared.cmp.Ordering.TheVariants.{Less, Equal, Greater}
use Rattle.std.proofs.lemmas.Bool.{false≢true}
use Rattle.std.proofs.lemmas.Option.{none-some, same_Some}
use Rattle.commit_check.specs.gem_object.Order.{value_order}
use Rattle.commit_check.specs.gem_object.declared.value.Value.{Value}
use Rattle.commit_check.specs.gem_object.declared.body.Body.{Body}
use Rattle.commit_check.specs.gem_object.declared.body.Body.TheVariants as body
use Rattle.commit_check.proofs.gem_object_lemmas.Ties.{ties}
use Rattle.commit_check.specs.rc_counter_bag.Bag as bags
use Rattle.commit_check.specs.rc_counter_bag.declared.counter.Counter.{Counter}
use Rattle.commit_check.specs.rc_counter_bag.declared.counter.CounterRange.{CounterRange}
use Rattle.commit_check.specs.rc_counter_bag.declared.update.BagUpdate.{BagUpdate}
use Rattle.commit_check.specs.rc_counter_bag.declared.update.BagUpdate.TheVariants as bag
use Rattle.commit_check.specs.rc_counter_bag.declared.update.BagFault.TheVariants as bag_fault
use Rattle.commit_check.specs.rc_dict.Dict as dicts
use Rattle.commit_check.specs.rc_dict.declared.update.DictUpdate.{DictUpdate}
use Rattle.commit_check.specs.rc_dict.declared.update.DictUpdate.TheVariants as dict
use Rattle.commit_check.specs.rc_dict.declared.update.DictFault.TheVariants as dict_fault
use Rattle.commit_check.specs.rc_queue.Contents.{Contents as Line}
use Rattle.commit_check.specs.rc_queue.Update as queues
use Rattle.commit_check.specs.rc_queue.declared.update.QueueUpdate.{QueueUpdate}
use Rattle.commit_check.specs.rc_queue.declared.update.QueueUpdate.TheVariants as queue
use Rattle.commit_check.specs.rc_queue.declared.update.QueueFault.TheVariants as queue_fault
use Rattle.gem_update.specs.Outcomes.{by_fault, counter_merged}
use Rattle.gem_update.specs.References.{values_in_update}
use Rattle.gem_update.specs.Update.{updated, merged, all_changes, counter_change, bag_change, dict_change, queue_change}
use Rattle.gem_update.specs.declared.update.Update.{Update}
use Rattle.gem_update.specs.declared.update.Update.TheVariants as change
use Rattle.commit_soundness.proofs.Lists.{all_of}

-- ---- bags

module _ (P : Value → Type 0) (item : Value) where
  abbrev Items : List (Value × ℕ) → Type 0
  Items pairs = AllByRecursion (λ pair. P pair.0) pairs

  more_by : (pair : Value × ℕ) (rest more : List (Value × ℕ)) (o : Ordering) → P item → P pair.0
      → Items rest → Items more
      → Items (match_ordering o (pair ∷ more) ((pair.0, bags.one_more pair.1) ∷ rest) ((item, 1) ∷ pair ∷ rest))
  more_by pair rest more Less here first others all = (first, all)
  more_by pair rest more Equal here first others all = (first, others)
  more_by pair rest more Greater here first others all = (here, (first, others))

  with_more : (pairs : List (Value × ℕ)) → P item → Items pairs
      → Items (bags.with_one_more value_order item pairs)
  with_more [] here all = (here, tt)
  with_more (pair ∷ rest) here all = more_by pair rest (bags.with_one_more value_order item rest)
      (value_order pair.0 item) here all.0 all.1 (with_more rest here all.1)

  more_from : (pair : Value × ℕ) (rest more : List (Value × ℕ)) (o : Ordering) → value_order pair.0 item ≡ o
      → (Items more → P item)
      → Items (match_ordering o (pair ∷ more) ((pair.0, bags.one_more pair.1) ∷ rest) ((item, 1) ∷ pair ∷ rest))
      → P item
  more_from pair rest more Less is from all = from all.1
  more_from pair rest more Equal is from all = subst P (ties pair.0 item is) all.0
  more_from pair rest more Greater is from all = all.0

  from_more : (pairs : List (Value × ℕ)) → Items (bags.with_one_more value_order item pairs) → P item
  from_more [] all = all.0
  from_more (pair ∷ rest) all = more_from pair rest (bags.with_one_more value_order item rest)
      (value_order pair.0 item) refl (from_more rest) all

  one_gone : (pair : Value × ℕ) (rest : List (Value × ℕ)) (last : Bool) (left : ℕ) → P pair.0 → Items rest
      → Items (cond last rest ((pair.0, left) ∷ rest))
  one_gone pair rest true left first others = others
  one_gone pair rest false left first others = (first, others)

  less_past : (pair : Value × ℕ) (found : Option (List (Value × ℕ))) (after : List (Value × ℕ)) → P pair.0
      → ((less : List (Value × ℕ)) → found ≡ Some less → P item × Items less)
      → option_map (λ less. pair ∷ less) found ≡ Some after → P item × Items after
  less_past pair None after first rest is = absurd (none-some after is)
  less_past pair (Some less) after first rest is =
      let more = rest less refl in
      (more.0, subst Items (same_Some (pair ∷ less) after is) (first, more.1))

  less_by : (pair : Value × ℕ) (kept after : List (Value × ℕ)) (found : Option (List (Value × ℕ))) (o : Ordering)
      → value_order pair.0 item ≡ o → P pair.0 → Items kept
      → ((less : List (Value × ℕ)) → found ≡ Some less → P item × Items less)
      → cond (is_eq o) (Some kept) (option_map (λ less. pair ∷ less) found) ≡ Some after → P item × Items after
  less_by pair kept after found Less tie first all more is = less_past pair found after first more is
  less_by pair kept after found Equal tie first all more is =
      (subst P (ties pair.0 item tie) first, subst Items (same_Some kept after is) all)
  less_by pair kept after found Greater tie first all more is = less_past pair found after first more is

  with_less : (pairs after : List (Value × ℕ)) → Items pairs
      → bags.with_one_less value_order item pairs ≡ Some after → P item × Items after
  with_less [] after all is = absurd (none-some after is)
  with_less (pair ∷ rest) after all is =
      less_by pair (cond (pair.1 == 1) rest ((pair.0, bags.one_less pair.1) ∷ rest)) after
      (bags.with_one_less value_order item rest) (value_order pair.0 item) refl all.0
      (one_gone pair rest (pair.1 == 1) (bags.one_less pair.1) all.0 all.1)
      (λ less. with_less rest less all.1) is

-- ---- dictionaries

module _ (R : Value × Value → Type 0) (key : Value) where
  abbrev Pairs : List (Value × Value) → Type 0
  Pairs pairs = AllByRecursion R pairs

  put_by : (value : Value) (pair : Value × Value) (rest more : List (Value × Value)) (o : Ordering)
      → R (key, value) → R pair → Pairs rest → Pairs more
      → Pairs (match_ordering o (pair ∷ more) ((key, value) ∷ rest) ((key, value) ∷ pair ∷ rest))
  put_by value pair rest more Less here first others all = (first, all)
  put_by value pair rest more Equal here first others all = (here, others)
  put_by value pair rest more Greater here first others all = (here, (first, others))

  with_put : (value : Value) (pairs : List (Value × Value)) → R (key, value) → Pairs pairs
      → Pairs (dicts.put value_order key value pairs)
  with_put value [] here all = (here, tt)
  with_put value (pair ∷ rest) here all = put_by value pair rest (dicts.put value_order key value rest)
      (value_order pair.0 key) here all.0 all.1 (with_put value rest here all.1)

  put_from : (value : Value) (pair : Value × Value) (rest more : List (Value × Value)) (o : Ordering)
      → (Pairs more → R (key, value))
      → Pairs (match_ordering o (pair ∷ more) ((key, value) ∷ rest) ((key, value) ∷ pair ∷ rest)) → R (key, value)
  put_from value pair rest more Less from all = from all.1
  put_from value pair rest more Equal from all = all.0
  put_from value pair rest more Greater from all = all.0

  pub from_put : (value : Value) (pairs : List (Value × Value)) → Pairs (dicts.put value_order key value pairs)
      → R (key, value)
  from_put value [] all = all.0
  from_put value (pair ∷ rest) all = put_from value pair rest (dicts.put value_order key value rest)
      (value_order pair.0 key) (from_put value rest) all

  without_by : (pair : Value × Value) (rest less : List (Value × Value)) (same : Bool) → R pair → Pairs rest
      → Pairs less → Pairs (cond same rest (pair ∷ less))
  without_by pair rest less true first others all = others
  without_by pair rest less false first others all = (first, all)

  with_out : (pairs : List (Value × Value)) → Pairs pairs → Pairs (dicts.without value_order key pairs)
  with_out [] all = tt
  with_out (pair ∷ rest) all = without_by pair rest (dicts.without value_order key rest)
      (is_eq (value_order pair.0 key)) all.0 all.1 (with_out rest all.1)

  module _ (K : Value → Type 0) (of_pair : (pair : Value × Value) → R pair → K pair.0) where
    entry_from : (pair : Value × Value) (found : Option Value) (o : Ordering) → value_order pair.0 key ≡ o → R pair
        → (is_some found ≡ true → K key) → is_some (cond (is_eq o) (Some pair.1) found) ≡ true → K key
    entry_from pair found Less tie first from some = from some
    entry_from pair found Equal tie first from some = subst K (ties pair.0 key tie) (of_pair pair first)
    entry_from pair found Greater tie first from some = from some

    pub from_entry : (pairs : List (Value × Value)) → Pairs pairs
        → is_some (dicts.entry value_order key pairs) ≡ true → K key
    from_entry [] all some = absurd (false≢true some)
    from_entry (pair ∷ rest) all some = entry_from pair (dicts.entry value_order key rest) (value_order pair.0 key)
        refl all.0 (from_entry rest all.1) some

-- a removal of a key that has a value
pub removed_some : (key : Value) (pairs after : List (Value × Value)) (some : Bool)
    → cond some (Some (dicts.without value_order key pairs)) None ≡ Some after → some ≡ true
removed_some key pairs after true is = refl
removed_some key pairs after false is = absurd (none-some after is)

module _ (R : Value × Value → Type 0) where
  settled_all : (update : DictUpdate Value Value) (pairs : List (Value × Value))
      → ((key value : Value) → update ≡ dict.Put key value → R (key, value)) → AllByRecursion R pairs
      → AllByRecursion R (dicts.settled value_order update pairs)
  settled_all (dict.Put key value) pairs new all = with_put R key value pairs (new key value refl) all
  settled_all (dict.Remove key) pairs new all = with_out R key pairs all

-- ---- queues

module _ (P : Value → Type 0) where
  front_by : (item front : Value) (removed : ℕ) (rest : List Value) (after : Line Value) (o : Ordering)
      → value_order front item ≡ o → P front → AllByRecursion P rest
      → cond (is_eq o) (Some (record { removed = removed; items = rest })) None ≡ Some after
      → P item × AllByRecursion P after.items
  front_by item front removed rest after Less tie first others is = absurd (none-some after is)
  front_by item front removed rest after Equal tie first others is = (
    subst P (ties front item tie) first,
    subst (λ (line : Line Value). AllByRecursion P line.items)
        (same_Some (record { removed = removed; items = rest }) after is) others,
  )
  front_by item front removed rest after Greater tie first others is = absurd (none-some after is)

  without_front : (item : Value) (removed : ℕ) (items : List Value) (after : Line Value) → AllByRecursion P items
      → queues.without_front value_order item removed items ≡ Some after
      → P item × AllByRecursion P after.items
  without_front item removed [] after all is = absurd (none-some after is)
  without_front item removed (front ∷ rest) after all is = front_by item front (queues.one_removal_more removed) rest
      after (value_order front item) refl all.0 all.1 is

  with_last : (items : List Value) (item : Value) → AllByRecursion P items → P item
      → AllByRecursion P (items ++ item ∷ [])
  with_last [] item all last = (last, tt)
  with_last (first ∷ rest) item all last = (all.0, with_last rest item all.1 last)

  from_last : (items : List Value) (item : Value) → AllByRecursion P (items ++ item ∷ []) → P item
  from_last [] item all = all.0
  from_last (first ∷ rest) item all = from_last rest item all.1

-- ---- bodies

-- this holds of each value of a reduced-conflict body
abbrev pub EachValue : (Value → Type 0) → Body → Type 0
EachValue P (body.Bag pairs) = AllByRecursion (λ pair. P pair.0) pairs
EachValue P (body.RcDict pairs) = AllByRecursion (λ pair. P pair.0 × P pair.1) pairs
EachValue P (body.Queue line) = AllByRecursion P line.items
EachValue P _ = Unit {0}

-- both bodies are reduced-conflict ones of one class
pub data IsLike : Body → Body → Type 0 where
  counters : (one other : Counter) → IsLike (body.Counter one) (body.Counter other)
  bags_both : (one other : List (Value × ℕ)) → IsLike (body.Bag one) (body.Bag other)
  dicts_both : (one other : List (Value × Value)) → IsLike (body.RcDict one) (body.RcDict other)
  queues_both : (one other : Line Value) → IsLike (body.Queue one) (body.Queue other)

-- what an update or a merge left, by the way in which it was accepted
pub update_left : {X F : Type 0} (made : X → Body) (found : Option X) (fault : F) (after : Body)
    → option_map made (result_ok (ok_or found fault)) ≡ Some after
    → (x : X) × (found ≡ Some x) × (made x ≡ after)
update_left made None fault after is = absurd (none-some after is)
update_left made (Some x) fault after is = (x, refl, same_Some (made x) after is)

merge_left : {X F : Type 0} (made : X → Body) (fault : ℕ → F) (answer : Result X ℕ) (after : Body)
    → option_map made (result_ok (by_fault fault answer)) ≡ Some after
    → (x : X) × (answer ≡ Ok x) × (made x ≡ after)
merge_left made fault (Err at) after is = absurd (none-some after is)
merge_left made fault (Ok x) after is = (x, refl, same_Some (made x) after is)

counter_left : (answer : Result Counter CounterRange) (after : Body)
    → option_map body.Counter (result_ok answer) ≡ Some after
    → (x : Counter) × (body.Counter x ≡ after)
counter_left (Err fault) after is = absurd (none-some after is)
counter_left (Ok x) after is = (x, same_Some (body.Counter x) after is)

-- ---- one update

module _ (P : Value → Type 0) where
  -- this holds of each value that an update brings
  abbrev pub Brought : Update → Type 0
  Brought update = AllByRecursion P (values_in_update update)

  bag_brought : (update : BagUpdate Value) (pairs after : List (Value × ℕ))
      → AllByRecursion (λ pair. P pair.0) pairs → AllByRecursion (λ pair. P pair.0) after
      → bags.updated value_order update pairs ≡ Some after → Brought (change.Bag update)
  bag_brought (bag.Add item) pairs after old new is = (
    from_more P item pairs (subst (Items P item)
        (sym (same_Some (bags.with_one_more value_order item pairs) after is)) new),
    tt,
  )
  bag_brought (bag.Remove item) pairs after old new is = ((with_less P item pairs after old is).0, tt)

  bag_after : (update : BagUpdate Value) (pairs after : List (Value × ℕ))
      → AllByRecursion (λ pair. P pair.0) pairs → Brought (change.Bag update)
      → bags.updated value_order update pairs ≡ Some after → AllByRecursion (λ pair. P pair.0) after
  bag_after (bag.Add item) pairs after old here is = subst (Items P item)
      (same_Some (bags.with_one_more value_order item pairs) after is) (with_more P item pairs here.0 old)
  bag_after (bag.Remove item) pairs after old here is = (with_less P item pairs after old is).1

  queue_brought : (update : QueueUpdate Value) (line after : Line Value)
      → AllByRecursion P line.items → AllByRecursion P after.items
      → queues.updated value_order update line ≡ Some after → Brought (change.Queue update)
  queue_brought (queue.Add item) line after old new is = (
    from_last P line.items item (subst (λ (some : Line Value). AllByRecursion P some.items)
        (sym (same_Some (record { removed = line.removed; items = line.items ++ item ∷ [] }) after is)) new),
    tt,
  )
  queue_brought (queue.Remove item) line after old new is =
      ((without_front P item line.removed line.items after old is).0, tt)

  queue_after : (update : QueueUpdate Value) (line after : Line Value)
      → AllByRecursion P line.items → Brought (change.Queue update)
      → queues.updated value_order update line ≡ Some after → AllByRecursion P after.items
  queue_after (queue.Add item) line after old here is = subst (λ (some : Line Value). AllByRecursion P some.items)
      (same_Some (record { removed = line.removed; items = line.items ++ item ∷ [] }) after is)
      (with_last P line.items item old here.0)
  queue_after (queue.Remove item) line after old here is =
      (without_front P item line.removed line.items after old is).1

  abbrev BothHold : Value × Value → Type 0
  BothHold pair = P pair.0 × P pair.1

  dict_brought : (update : DictUpdate Value Value) (pairs after : List (Value × Value))
      → AllByRecursion BothHold pairs → AllByRecursion BothHold after
      → dicts.updated value_order update pairs ≡ Some after → Brought (change.RcDict update)
  dict_brought (dict.Put key value) pairs after old new is =
      let here = from_put BothHold key value pairs (subst (AllByRecursion BothHold)
      (sym (same_Some (dicts.put value_order key value pairs) after is)) new) in
      (here.0, (here.1, tt))
  dict_brought (dict.Remove key) pairs after old new is = (
    from_entry BothHold key P (λ pair holds. holds.0) pairs old
        (removed_some key pairs after (is_some (dicts.entry value_order key pairs)) is),
    tt,
  )

  -- what an update brings was in the body, or is in what the update leaves of it
  pub update_brought : (update : Update) (old new : Body) → updated update old ≡ Some new → EachValue P old
      → EachValue P new → Brought update
  update_brought (change.Counter by) (body.Counter counter) new is before after = tt
  update_brought (change.Bag update) (body.Bag pairs) new is before after =
      let left = update_left body.Bag (bags.updated value_order update pairs) (bag_fault.Missing 0) new is in
      bag_brought update pairs left.0 before (subst (EachValue P) (sym left.2) after) left.1
  update_brought (change.RcDict update) (body.RcDict pairs) new is before after =
      let left = update_left body.RcDict (dicts.updated value_order update pairs) (dict_fault.Key 0) new is in
      dict_brought update pairs left.0 before (subst (EachValue P) (sym left.2) after) left.1
  update_brought (change.Queue update) (body.Queue line) new is before after =
      let left = update_left body.Queue (queues.updated value_order update line) (queue_fault.Remove 0) new is in
      queue_brought update line left.0 before (subst (EachValue P) (sym left.2) after) left.1
  update_brought _ _ new is before after = absurd (none-some new is)

  -- ---- merges

  bag_replayed : (at : ℕ) (updates : List (BagUpdate Value)) (pairs after : List (Value × ℕ))
      → AllByRecursion (λ pair. P pair.0) pairs → AllByRecursion (λ update. Brought (change.Bag update)) updates
      → bags.replayed value_order at updates pairs ≡ Ok after → AllByRecursion (λ pair. P pair.0) after
  bag_replayed at [] pairs after old all is =
      let same : pairs ≡ after = cc in subst (AllByRecursion (λ pair. P pair.0)) same old
  bag_replayed at (update ∷ rest) pairs after old all is =
      by (bags.updated value_order update pairs) refl is
      (λ next here. bag_replayed (at + 1) rest next after here all.1)
    where
      by : (found : Option (List (Value × ℕ))) → bags.updated value_order update pairs ≡ found
          → bags.and_then at found (bags.replayed value_order (at + 1) rest) ≡ Ok after
          → ((next : List (Value × ℕ)) → AllByRecursion (λ pair. P pair.0) next
          → bags.replayed value_order (at + 1) rest next ≡ Ok after → AllByRecursion (λ pair. P pair.0) after)
          → AllByRecursion (λ pair. P pair.0) after
      by None here given more = absurd (cc)
      by (Some next) here given more = more next (bag_after update pairs next old all.0 here) given

  queue_replayed : (at : ℕ) (updates : List (QueueUpdate Value)) (line after : Line Value)
      → AllByRecursion P line.items → AllByRecursion (λ update. Brought (change.Queue update)) updates
      → queues.replayed value_order at updates line ≡ Ok after → AllByRecursion P after.items
  queue_replayed at [] line after old all is =
      let same : line ≡ after = cc in subst (λ (some : Line Value). AllByRecursion P some.items) same old
  queue_replayed at (update ∷ rest) line after old all is =
      by (queues.updated value_order update line) refl is
      (λ next here. queue_replayed (at + 1) rest next after here all.1)
    where
      by : (found : Option (Line Value)) → queues.updated value_order update line ≡ found
          → queues.and_then at found (queues.replayed value_order (at + 1) rest) ≡ Ok after
          → ((next : Line Value) → AllByRecursion P next.items
          → queues.replayed value_order (at + 1) rest next ≡ Ok after → AllByRecursion P after.items)
          → AllByRecursion P after.items
      by None here given more = absurd (cc)
      by (Some next) here given more = more next (queue_after update line next old all.0 here) given

  dict_new : (update : DictUpdate Value Value) → Brought (change.RcDict update) → (key value : Value)
      → update ≡ dict.Put key value → BothHold (key, value)
  dict_new update here key value is =
      let both = subst (λ some. Brought (change.RcDict some)) is here in (both.0, both.1.0)

  dict_settled : (updates : List (DictUpdate Value Value)) (pairs : List (Value × Value))
      → AllByRecursion BothHold pairs → AllByRecursion (λ update. Brought (change.RcDict update)) updates
      → AllByRecursion BothHold (dicts.all_settled value_order updates pairs)
  dict_settled [] pairs old all = old
  dict_settled (update ∷ rest) pairs old all = dict_settled rest (dicts.settled value_order update pairs)
      (settled_all BothHold update pairs (dict_new update all.0) old) all.1

  dict_unchanged : (changed : Option ℕ) (pairs after : List (Value × Value))
      → dicts.unless_changed changed pairs ≡ Ok after → pairs ≡ after
  dict_unchanged None pairs after is = cc
  dict_unchanged (Some at) pairs after is = absurd (cc)

  queue_unrefused : (refused : Option ℕ) (answer : Result (Line Value) ℕ) (after : Line Value)
      → queues.unless_refused refused answer ≡ Ok after → answer ≡ Ok after
  queue_unrefused None answer after is = is
  queue_unrefused (Some at) answer after is = absurd (cc)

  -- the updates of one class, as changes of that class
  module _ {C : Type 0} (change_of : Update → Option C) (back : C → Update)
      (is_back : (update : Update) (some : C) → change_of update ≡ Some some → update ≡ back some) where
    first_change : (update : Update) (found : Option C) (more : Option (List C)) (changes : List C)
        → change_of update ≡ found → Brought update
        → ((rest : List C) → more ≡ Some rest → AllByRecursion (λ some. Brought (back some)) rest)
        → option_and_then (λ first. option_map (λ rest. first ∷ rest) more) found ≡ Some changes
        → AllByRecursion (λ some. Brought (back some)) changes
    first_change update None more changes at here rest is = absurd (none-some changes is)
    first_change update (Some first) None changes at here rest is = absurd (none-some changes is)
    first_change update (Some first) (Some others) changes at here rest is =
        subst (AllByRecursion (λ some. Brought (back some))) (same_Some (first ∷ others) changes is)
        (subst Brought (is_back update first at) here, rest others refl)

    each_change : (updates : List Update) (changes : List C) → all_changes change_of updates ≡ Some changes
        → AllByRecursion Brought updates → AllByRecursion (λ some. Brought (back some)) changes
    each_change [] changes is all = subst (AllByRecursion (λ some. Brought (back some))) (same_Some [] changes is) tt
    each_change (update ∷ rest) changes is all = first_change update (change_of update) (all_changes change_of rest)
        changes refl all.0 (λ more found. each_change rest more found all.1) is

  bag_back : (update : Update) (some : BagUpdate Value) → bag_change update ≡ Some some → update ≡ change.Bag some
  bag_back (change.Bag update) some is = ap change.Bag (same_Some update some is)
  bag_back _ some is = absurd (none-some some is)

  dict_back : (update : Update) (some : DictUpdate Value Value) → dict_change update ≡ Some some
      → update ≡ change.RcDict some
  dict_back (change.RcDict update) some is = ap change.RcDict (same_Some update some is)
  dict_back _ some is = absurd (none-some some is)

  queue_back : (update : Update) (some : QueueUpdate Value) → queue_change update ≡ Some some
      → update ≡ change.Queue some
  queue_back (change.Queue update) some is = ap change.Queue (same_Some update some is)
  queue_back _ some is = absurd (none-some some is)

  -- what follows where all updates are of one class
  of_one_class : {C : Type 0} (made : List C → Option Body) (found : Option (List C)) (after : Body)
      → option_and_then made found ≡ Some after
      → (changes : List C) × (found ≡ Some changes) × (made changes ≡ Some after)
  of_one_class made None after is = absurd (none-some after is)
  of_one_class made (Some changes) after is = (changes, refl, is)

  -- A merge leaves a body of the same class. Its values were at the place, or an update brought them.
  pub merge_keeps : (view place after : Body) (updates : List Update) → merged view place updates ≡ Some after
      → EachValue P place → AllByRecursion Brought updates → IsLike place after × EachValue P after
  merge_keeps (body.Counter view) (body.Counter place) after updates is old all =
      let changes = of_one_class _ (all_changes counter_change updates) after is in
      let left = counter_left (counter_merged view place changes.0) after changes.2 in
      subst (λ some. IsLike (body.Counter place) some × EachValue P some) left.1 (counters place left.0, tt)
  merge_keeps (body.Bag view) (body.Bag place) after updates is old all =
      let changes = of_one_class _ (all_changes bag_change updates) after is in
      let left = merge_left body.Bag bag_fault.Missing (bags.merged value_order view place changes.0) after changes.2 in
      let each = each_change bag_change change.Bag bag_back updates changes.0 changes.1 all in
      subst (λ some. IsLike (body.Bag place) some × EachValue P some) left.2
      (bags_both place left.0, bag_replayed 0 changes.0 place left.0 old each left.1)
  merge_keeps (body.RcDict view) (body.RcDict place) after updates is old all =
      let changes = of_one_class _ (all_changes dict_change updates) after is in
      let left = merge_left body.RcDict dict_fault.Key (dicts.merged value_order value_order view place changes.0) after
      changes.2 in
      let each = each_change dict_change change.RcDict dict_back updates changes.0 changes.1 all in
      let same = dict_unchanged (dicts.first_changed value_order value_order view place 0 changes.0)
      (dicts.all_settled value_order changes.0 place) left.0 left.1 in
      subst (λ some. IsLike (body.RcDict place) some × EachValue P some) left.2
      (dicts_both place left.0, subst (AllByRecursion BothHold) same (dict_settled changes.0 place old each))
  merge_keeps (body.Queue view) (body.Queue place) after updates is old all =
      let changes = of_one_class _ (all_changes queue_change updates) after is in
      let left = merge_left body.Queue queue_fault.Remove (queues.merged value_order view place changes.0) after
      changes.2 in
      let each = each_change queue_change change.Queue queue_back updates changes.0 changes.1 all in
      let same = queue_unrefused (queues.removed_since view place changes.0)
      (queues.replayed value_order 0 changes.0 place) left.0 left.1 in
      subst (λ some. IsLike (body.Queue place) some × EachValue P some) left.2
      (queues_both place left.0, queue_replayed 0 changes.0 place left.0 old each same)
  merge_keeps _ _ after updates is old all = absurd (none-some after is)

each_any : (of : Body) → EachValue (λ value. Unit {0}) of
each_any (body.Bag pairs) = all_of (λ pair. Unit {0}) (λ pair. tt) pairs
each_any (body.RcDict pairs) = all_of (λ pair. Unit {0} × Unit {0}) (λ pair. (tt, tt)) pairs
each_any (body.Queue line) = all_of (λ value. Unit {0}) (λ value. tt) line.items
each_any _ = tt

-- a merge leaves a body of the same class
pub merge_like : (view place after : Body) (updates : List Update) → merged view place updates ≡ Some after
    → IsLike place after
merge_like view place after updates is = (merge_keeps (λ value. Unit {0}) view place after updates is (each_any place)
    (all_of (Brought (λ value. Unit {0})) (λ update. all_of (λ value. Unit {0}) (λ value. tt)
    (values_in_update update)) updates)).0

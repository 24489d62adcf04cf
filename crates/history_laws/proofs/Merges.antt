-- Updates that are accepted one after the other by a body are merged where that body still stands.
use Rattle.std.proofs.Common.{◌≡◌, ℕ, ℤ, pos, ◌+◌, ◌+ℤ◌, Bool, true, false, if◌then◌else◌, List, [], ◌∷◌, Option, Some, None, Result, Ok, Err, is_some, option_map, option_and_then, nat_cmp, refl, sym, ap, subst, ◌∙◌, arith}
use Rattle.std.specs.List.{fold}
use Rattle.std.specs.Ordering.{ordering_then, is_eq}
use Rattle.std.specs.Option.{ok_or}
use Rattle.std.specs.Result.{result_ok}
use Rattle.std.specs.Cmp.{nat_cmp_total, int_cmp_total, tied_itself}
use Rattle.std.specs.Cmp.Lexicographic.{nat_list_cmp_total}
use Rattle.std.proofs.lemmas.Bool.{false≢true, eq-eqb}
use Rattle.std.proofs.lemmas.Int.{ints}
use Rattle.std.proofs.lemmas.Option.{same_Some}
use Rattle.gem_meaning.specs.texts.SmallInteger.{is_small_integer}
use Rattle.gem_meaning.specs.gem_object.Order.{value_order}
use Rattle.gem_meaning.specs.gem_object.Spelling.{IsSpelledBody}
use Rattle.gem_meaning.specs.gem_object.declared.value.Value.{Value}
use Rattle.gem_meaning.specs.gem_object.declared.value.Value.TheVariants as value
use Rattle.gem_meaning.specs.gem_object.declared.body.Body.{Body}
use Rattle.gem_meaning.specs.gem_object.declared.body.Body.TheVariants as body
use Rattle.gem_meaning.specs.rc_counter_bag.Counter as counters
use Rattle.gem_meaning.specs.rc_counter_bag.Bag as bags
use Rattle.gem_meaning.specs.rc_counter_bag.declared.counter.Counter.{Counter}
use Rattle.gem_meaning.specs.rc_dict.Dict as dicts
use Rattle.gem_meaning.specs.rc_dict.declared.update.DictUpdate.{DictUpdate}
use Rattle.gem_meaning.specs.rc_queue.Contents.{Contents}
use Rattle.gem_meaning.specs.rc_queue.Update as queues
use Rattle.gem_meaning.specs.gem_update.Outcomes.{by_fault, counter_or_range, counter_updated, counter_merged, bag_updated, bag_merged, dict_updated, dict_merged, queue_updated, queue_merged}
use Rattle.gem_meaning.specs.gem_update.Update.{updated, all_changes, counter_change, bag_change, dict_change, queue_change, merged, merge_kind}
use Rattle.gem_meaning.specs.gem_update.declared.update.Update.{Update}
use Rattle.gem_meaning.specs.gem_update.declared.update.Update.TheVariants as change
use Rattle.gem_meaning.specs.object_programs.Laws.{updated_by_all}

-- ---- the order of values ties a value with itself

tied_value : (v : Value) → is_eq (value_order v v) ≡ true
tied_value value.Nil = refl
tied_value value.False = refl
tied_value value.True = refl
tied_value (value.Int number) = ap is_eq (tied_itself int_cmp_total number)
tied_value (value.Char code) = ap is_eq (tied_itself nat_cmp_total code)
tied_value (value.Sym name) = ap is_eq (tied_itself nat_list_cmp_total name)
tied_value (value.Ref oid) = ap is_eq (tied_itself nat_cmp_total oid)
tied_value (value.Block block) = ap is_eq
    (ap (λ first. ordering_then first (nat_cmp block.params block.params)) (tied_itself nat_cmp_total block.number)
    ∙ tied_itself nat_cmp_total block.params)

same_itself : (found : Option Value) → dicts.same_entry value_order found found ≡ true
same_itself None = refl
same_itself (Some v) = tied_value v

-- no key was changed where the dictionary is the one at the view
unchanged : (pairs : List (Value × Value)) (at : ℕ) (updates : List (DictUpdate Value Value))
    → dicts.first_changed value_order value_order pairs pairs at updates ≡ None
unchanged pairs at [] = refl
unchanged pairs at (update ∷ rest) =
    ap (λ same. if same then dicts.first_changed value_order value_order pairs pairs (at + 1) rest else Some at)
    (same_itself (dicts.entry value_order (dicts.key_of update) pairs)) ∙ unchanged pairs (at + 1) rest

-- ---- updates of one class

-- all changes are there, and what they make is
abbrev pub AreMade : {C : Type 0} → Option (List C) → (List C → Bool) → Type 0
AreMade {C} all makes = (changes : List C) × (all ≡ Some changes) × (makes changes ≡ true)

abbrev pub is_ok : {X F : Type 0} → Result X F → Bool
is_ok (Ok x) = true
is_ok (Err f) = false

one_more_change : {C : Type 0} (change_of : Update → Option C) (update : Update) (rest : List Update)
    (first : C) (more : List C) → change_of update ≡ Some first → all_changes change_of rest ≡ Some more
    → all_changes change_of (update ∷ rest) ≡ Some (first ∷ more)
one_more_change change_of update rest first more is all = rw (is, all) refl

module _ {Q : Type 0} where
  -- what an accepted update left, and the updates after it
  went_on : (found : Option Body) (rest : List Update)
      → is_some (option_and_then (updated_by_all rest) found) ≡ true
      → ((after : Body) → found ≡ Some after → is_some (updated_by_all rest after) ≡ true → Q) → Q
  went_on None rest some go = absurd (false≢true some)
  went_on (Some after) rest some go = go after refl some

  by_made : {X F : Type 0} (made : X → Body) (answer : Result X F) (after : Body)
      → option_map made (result_ok answer) ≡ Some after
      → ((x : X) → answer ≡ Ok x → after ≡ made x → Q) → Q
  by_made made (Ok x) after is go = go x refl (sym (same_Some (made x) after is))
  by_made made (Err f) after is go = absurd (false≢true (ap is_some is))

  by_ok : {X F : Type 0} (found : Option X) (f : F) (x : X) → ok_or found f ≡ Ok x
      → (found ≡ Some x → Q) → Q
  by_ok None f x is go = absurd (false≢true (ap is_ok is))
  by_ok (Some y) f x is go = go (ap Some (ok_same y x is))
    where
      ok_same : {X F : Type 0} (y x : X) → ◌≡◌ {A = Result X F} (Ok y) (Ok x) → y ≡ x
      ok_same y x is = cc

-- bags: the updates one after the other, from any number on
bag_made : (updates : List Update) (at : ℕ) (pairs : List (Value × ℕ))
    → is_some (updated_by_all updates (body.Bag pairs)) ≡ true
    → AreMade (all_changes bag_change updates)
    (λ changes. is_ok (bags.replayed value_order at changes pairs))
bag_made [] at pairs some = ([], refl, refl)
bag_made (change.Bag update ∷ rest) at pairs some =
    went_on (updated (change.Bag update) (body.Bag pairs)) rest some (λ after is more.
    by_made body.Bag (bag_updated update pairs) after is (λ next ok same.
    by_ok (bags.updated value_order update pairs) _ next ok (λ found.
    let others = bag_made rest (at + 1) next (subst (λ b. is_some (updated_by_all rest b) ≡ true) same more) in (
      update ∷ others.0,
      one_more_change bag_change (change.Bag update) rest update others.0 refl others.1,
      ap (λ o. is_ok (bags.and_then at o (bags.replayed value_order (at + 1) others.0))) found ∙ others.2,
    ))))
bag_made (change.Counter by ∷ rest) at pairs some = absurd (false≢true some)
bag_made (change.RcDict update ∷ rest) at pairs some = absurd (false≢true some)
bag_made (change.Queue update ∷ rest) at pairs some = absurd (false≢true some)

-- queues, in the same way
queue_made : (updates : List Update) (at : ℕ) (queue : Contents Value)
    → is_some (updated_by_all updates (body.Queue queue)) ≡ true
    → AreMade (all_changes queue_change updates)
    (λ changes. is_ok (queues.replayed value_order at changes queue))
queue_made [] at queue some = ([], refl, refl)
queue_made (change.Queue update ∷ rest) at queue some =
    went_on (updated (change.Queue update) (body.Queue queue)) rest some (λ after is more.
    by_made body.Queue (queue_updated update queue) after is (λ next ok same.
    by_ok (queues.updated value_order update queue) _ next ok (λ found.
    let others = queue_made rest (at + 1) next (subst (λ b. is_some (updated_by_all rest b) ≡ true) same more) in (
      update ∷ others.0,
      one_more_change queue_change (change.Queue update) rest update others.0 refl others.1,
      ap (λ o. is_ok (queues.and_then at o (queues.replayed value_order (at + 1) others.0))) found ∙ others.2,
    ))))
queue_made (change.Counter by ∷ rest) at queue some = absurd (false≢true some)
queue_made (change.Bag update ∷ rest) at queue some = absurd (false≢true some)
queue_made (change.RcDict update ∷ rest) at queue some = absurd (false≢true some)

-- dictionaries: nothing is asked of their changes
dict_made : (updates : List Update) (pairs : List (Value × Value))
    → is_some (updated_by_all updates (body.RcDict pairs)) ≡ true
    → AreMade (all_changes dict_change updates) (λ changes. true)
dict_made [] pairs some = ([], refl, refl)
dict_made (change.RcDict update ∷ rest) pairs some =
    went_on (updated (change.RcDict update) (body.RcDict pairs)) rest some (λ after is more.
    by_made body.RcDict (dict_updated update pairs) after is (λ next ok same.
    let others = dict_made rest next (subst (λ b. is_some (updated_by_all rest b) ≡ true) same more) in (
      update ∷ others.0,
      one_more_change dict_change (change.RcDict update) rest update others.0 refl others.1,
      refl,
    )))
dict_made (change.Counter by ∷ rest) pairs some = absurd (false≢true some)
dict_made (change.Bag update ∷ rest) pairs some = absurd (false≢true some)
dict_made (change.Queue update ∷ rest) pairs some = absurd (false≢true some)

-- counters: the sum of the updates, from any number on
sum_from : (updates : List ℤ) (start more : ℤ)
    → fold ◌+ℤ◌ (start +ℤ more) updates ≡ start +ℤ fold ◌+ℤ◌ more updates
sum_from [] start more = refl
sum_from (by ∷ rest) start more =
    ap (λ sum. fold ◌+ℤ◌ sum rest) (omega (arith, ints)) ∙ sum_from rest start (more +ℤ by)

small_from : (sum next : ℤ) → counters.small_integer sum ≡ Some next
    → (is_small_integer sum ≡ true) × (sum ≡ next)
small_from sum next is = by (is_small_integer sum) refl is
  where
    by : (small : Bool) → is_small_integer sum ≡ small → if small then Some sum else None ≡ Some next
        → (is_small_integer sum ≡ true) × (sum ≡ next)
    by true small given = (small, same_Some sum next given)
    by false small given = absurd (false≢true (ap is_some given))

counter_made : (updates : List Update) (counter : Counter) → is_small_integer counter.value ≡ true
    → is_some (updated_by_all updates (body.Counter counter)) ≡ true
    → AreMade (all_changes counter_change updates)
    (λ changes. is_small_integer (fold ◌+ℤ◌ counter.value changes))
counter_made [] counter small some = ([], refl, small)
counter_made (change.Counter by ∷ rest) counter small some =
    went_on (updated (change.Counter by) (body.Counter counter)) rest some (λ after is more.
    by_made body.Counter (counter_updated by counter) after is (λ next ok same.
    by_ok _ _ next ok (λ found.
    let value = small_value (counter.value +ℤ by) next found in
    let others = counter_made rest next (subst (λ v. is_small_integer v ≡ true) value.1 value.0)
    (subst (λ b. is_some (updated_by_all rest b) ≡ true) same more) in (
      by ∷ others.0,
      one_more_change counter_change (change.Counter by) rest by others.0 refl others.1,
      ap (λ v. is_small_integer (fold ◌+ℤ◌ v others.0)) value.1 ∙ others.2,
    ))))
  where
    small_value : (sum : ℤ) (next : Counter)
        → option_map (λ v. record { value = v }) (counters.small_integer sum) ≡ Some next
        → (is_small_integer sum ≡ true) × (sum ≡ next.value)
    small_value sum next is = by_small (is_small_integer sum) refl is
      where
        by_small : (small : Bool) → is_small_integer sum ≡ small
            → option_map (λ v. record { value = v }) (if small then Some sum else None) ≡ Some next
            → (is_small_integer sum ≡ true) × (sum ≡ next.value)
        by_small true small given =
            (small, ap (λ (c : Counter). c.value) (same_Some (record { value = sum }) next given))
        by_small false small given = absurd (false≢true (ap is_some given))
counter_made (change.Bag update ∷ rest) counter small some = absurd (false≢true some)
counter_made (change.RcDict update ∷ rest) counter small some = absurd (false≢true some)
counter_made (change.Queue update ∷ rest) counter small some = absurd (false≢true some)

-- ---- merges

ok_some : {X F : Type 0} (made : X → Body) (answer : Result X F) → is_ok answer ≡ true
    → is_some (option_map made (result_ok answer)) ≡ true
ok_some made (Ok x) ok = refl
ok_some made (Err f) ok = absurd (false≢true ok)

fault_ok : {X F : Type 0} (fault : ℕ → F) (answer : Result X ℕ) → is_ok answer ≡ true
    → is_ok (by_fault fault answer) ≡ true
fault_ok fault (Ok x) ok = refl
fault_ok fault (Err at) ok = absurd (false≢true ok)

changes_some : {C : Type 0} (all : Option (List C)) (changes : List C) (make : List C → Option Body)
    → all ≡ Some changes → is_some (make changes) ≡ true → is_some (option_and_then make all) ≡ true
changes_some all changes make is some = ap (λ found. is_some (option_and_then make found)) is ∙ some

-- Updates that a body accepts one after the other are merged where it stands still.
pub merged_still : (b : Body) (updates : List Update) → IsSpelledBody b → is_some (merge_kind b) ≡ true
    → is_some (updated_by_all updates b) ≡ true → is_some (merged b b updates) ≡ true
merged_still (body.Counter counter) updates spelled shared some =
    let all = counter_made updates counter spelled some in
    changes_some (all_changes counter_change updates) all.0 _ all.1
    (ok_some body.Counter (counter_merged counter counter all.0)
    (range_ok (counter.value +ℤ counters.total all.0)
    (ap is_small_integer (sym (sum_from all.0 counter.value (pos 0))
    ∙ ap (λ v. fold ◌+ℤ◌ v all.0) (omega (arith, ints))) ∙ all.2)))
  where
    range_ok : (sum : ℤ) → is_small_integer sum ≡ true → is_ok (counter_or_range (counters.small_integer sum)) ≡ true
    range_ok sum small = ap (λ b. is_ok (counter_or_range (if b then Some sum else None))) small
merged_still (body.Bag pairs) updates spelled shared some =
    let all = bag_made updates 0 pairs some in
    changes_some (all_changes bag_change updates) all.0 _ all.1
    (ok_some body.Bag (bag_merged pairs pairs all.0)
    (fault_ok _ (bags.merged value_order pairs pairs all.0) all.2))
merged_still (body.RcDict pairs) updates spelled shared some =
    let all = dict_made updates pairs some in
    changes_some (all_changes dict_change updates) all.0 _ all.1
    (ok_some body.RcDict (dict_merged pairs pairs all.0)
    (fault_ok _ (dicts.merged value_order value_order pairs pairs all.0)
    (ap (λ found. is_ok (dicts.unless_changed found (dicts.all_settled value_order all.0 pairs)))
    (unchanged pairs 0 all.0))))
merged_still (body.Queue queue) updates spelled shared some =
    let all = queue_made updates 0 queue some in
    changes_some (all_changes queue_change updates) all.0 _ all.1
    (ok_some body.Queue (queue_merged queue queue all.0)
    (fault_ok _ (queues.merged value_order queue queue all.0)
    (ap (λ same. is_ok (queues.unless_refused (if same then None else queues.first_removal 0 all.0)
    (queues.replayed value_order 0 all.0 queue))) (eq-eqb queue.removed queue.removed refl) ∙ all.2)))
merged_still (body.Plain values) updates spelled shared some = absurd (false≢true shared)
merged_still (body.Bytes bytes) updates spelled shared some = absurd (false≢true shared)
merged_still (body.Dict pairs) updates spelled shared some = absurd (false≢true shared)
merged_still (body.Class class) updates spelled shared some = absurd (false≢true shared)
merged_still (body.Segment rights) updates spelled shared some = absurd (false≢true shared)
merged_still (body.User user) updates spelled shared some = absurd (false≢true shared)

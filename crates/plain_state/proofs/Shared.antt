-- A reduced-conflict object with an update: whether it may stand, and what it lacks where it may not.
use Rattle.std.proofs.Common.{◌≡◌, ◌==◌, ◌∙◌, refl, sym, ap, ap₂, subst, ℕ, ℤ, ◌+ℤ◌, suc, ◌+◌, ◌<◌, ◌≤◌, ◌^◌, Bool, true, false, ◌&&◌, ◌||◌, cond, nat_lt, Option, Some, None, List, [], ◌∷◌, ◌++◌, map, length, fold, is_some, option_map, Ordering, arith}
use Rattle.std.proofs.lemmas.Bool.{false≢true, true≢false, and_parts, and_from, ltb-true, lt-ltb}
use Rattle.std.proofs.lemmas.List.{length-append}
use Rattle.std.proofs.lemmas.List.Folds.{list_all-append}
use Rattle.std.proofs.lemmas.List.Sums.{fold-append}
use Rattle.std.proofs.lemmas.Option.{same_Some}
use Rattle.std.specs.List.{list_all, All}
use Rattle.std.specs.Option.{ok_or}
use Rattle.std.specs.Result.{result_ok}
use Rattle.std.specs.Ordering.{is_eq, match_ordering}
use Rattle.std.specs.Cmp.{Equal-is}
use Rattle.std.specs.declared.cmp.Ordering.TheVariants.{Less, Equal, Greater}
use Rattle.gem_object.specs.texts.SmallInteger.{is_small_integer}
use Rattle.gem_object.specs.Kinds as kinds
use Rattle.gem_object.specs.Order.{value_order}
use Rattle.gem_object.specs.References.{names_in, names_in_pairs, names_in_items, names_in_body}
use Rattle.gem_object.specs.Spelling.{IsStorable, is_key, IsSpelledBody}
use Rattle.gem_object.specs.declared.kind.Kind.{Kind}
use Rattle.gem_object.specs.declared.kind.Kind.TheVariants as kind
use Rattle.gem_object.specs.declared.value.Value.{Value}
use Rattle.gem_object.specs.declared.value.Value.TheVariants as value
use Rattle.gem_object.specs.declared.body.Body.{Body}
use Rattle.gem_object.specs.declared.body.Body.TheVariants as body
use Rattle.gem_object.proofs.Ties.{ties}
use Rattle.gem_object.specs.rc_counter_bag.Bag as bags
use Rattle.gem_object.specs.rc_counter_bag.Counter as counters
use Rattle.gem_object.specs.rc_counter_bag.declared.counter.Counter.{Counter}
use Rattle.gem_object.specs.rc_counter_bag.declared.update.BagUpdate.TheVariants as bag
use Rattle.gem_object.specs.rc_counter_bag.declared.update.BagFault.TheVariants as bag_fault
use Rattle.gem_object.proofs.rc_counter_bag_lemmas.Kept.{kept_first}
use Rattle.gem_object.specs.rc_dict.Dict as dicts
use Rattle.gem_object.specs.rc_dict.declared.update.DictUpdate.TheVariants as dict
use Rattle.gem_object.specs.rc_dict.declared.update.DictFault.TheVariants as dict_fault
use Rattle.gem_object.specs.rc_queue.Contents.{Contents as Line}
use Rattle.gem_object.specs.rc_queue.Update as queues
use Rattle.gem_object.specs.rc_queue.declared.update.QueueUpdate.TheVariants as queue
use Rattle.gem_object.specs.rc_queue.declared.update.QueueFault.TheVariants as queue_fault
use Rattle.gem_update.specs.Update.{fits_update, updated}
use Rattle.gem_update.specs.References.{values_in_update}
use Rattle.gem_update.specs.Spelling.{HasKey, IsStorableUpdate, entries_of}
use Rattle.gem_update.specs.declared.update.Update.{Update}
use Rattle.gem_update.specs.declared.update.Update.TheVariants as change
use Rattle.gem_image.specs.Image.{Contents}
use Rattle.gem_world.specs.World.{Setting, World, shown}
use Rattle.gem_world.specs.Changes.{with_body}
use Rattle.object_programs.specs.gem_sound.Kernel.{KernelBody, a_class, a_dictionary, a_segment, a_user, no_slots, kernel_body}
use Rattle.object_programs.specs.Fixed.{BodyKind, body_kind, ClassPart, class_part, Fixed, fixed_of, fixed_by}
use Rattle.object_programs.specs.Guard.{Parts, holds_of, is_known, names_at, has_slots, is_class_object, is_transcript, accepts_by, accepts, named_fit, kernel_fits_by, kernel_fits, may_replace}
use Rattle.object_programs.specs.Methods.{methods_fit}
use Rattle.object_programs.specs.Atom.{with_missing}
use Rattle.object_programs.specs.Laws.{AreSound, lacking}
use Rattle.object_programs.specs.Spelled.{is_storable, is_storable_pair, is_spelled}
use Rattle.object_programs.proofs.Spells.{tells_spelled}
use Rattle.running_objects.specs.Seen.{Seen, IsSoundState}
use Rattle.running_objects.specs.Fitting.{is_known_value, can_count}
use Rattle.running_objects.proofs.Edits.{all_known, replace_is, body_fits, old_known, old_rest}
use Rattle.running_objects.proofs.Puts.{none_missing}
use Rattle.plain_state.specs.Updates.{may_update, missed_update}
use Rattle.plain_state.proofs.Slots.{value_missing, refs_of_one, values_missing, around_missing, value_missed}
use Rattle.plain_state.proofs.Keys.{pair_known, pairs_known}
use Rattle.plain_state.proofs.KeyPuts.{last_true, pair_missing, body_lacks, both_missed}

-- ---- items of a bag

-- the values of items
abbrev values_of : {X : Type 0} → List (Value × X) → List Value
values_of pairs = map (λ pair. pair.0) pairs

all_values : {X : Type 0} (test : Value → Bool) (pairs : List (Value × X))
    → list_all test (values_of pairs) ≡ list_all (λ pair. test pair.0) pairs
all_values test [] = refl
all_values test (pair ∷ rest) = ap (λ b. test pair.0 && b) (all_values test rest)

names_first : (one : Value) (count : ℕ) (rest : List (Value × ℕ)) (others : List Value)
    → names_in_items rest ≡ names_in others → names_in_items ((one, count) ∷ rest) ≡ names_in (one ∷ others)
names_first (value.Ref name) count rest others same = ap (λ names. name ∷ names) same
names_first value.Nil count rest others same = same
names_first value.False count rest others same = same
names_first value.True count rest others same = same
names_first (value.Int number) count rest others same = same
names_first (value.Char code) count rest others same = same
names_first (value.Sym name) count rest others same = same
names_first (value.Block block) count rest others same = same

items_are : (pairs : List (Value × ℕ)) → names_in_items pairs ≡ names_in (values_of pairs)
items_are [] = refl
items_are (pair ∷ rest) = names_first pair.0 pair.1 rest (values_of rest) (items_are rest)

items_known : (parts : Parts) (pairs : List (Value × ℕ))
    → list_all (is_known parts) (names_in_items pairs) ≡ list_all (λ pair. is_known_value parts pair.0) pairs
items_known parts pairs = ap (list_all (is_known parts)) (items_are pairs) ∙ all_known parts (values_of pairs)
    ∙ all_values (is_known_value parts) pairs

known_not_missing : (parts : Parts) (touched : List ℕ) (one : Value) → is_known_value parts one ≡ true
    → value_missing parts touched one ≡ touched
known_not_missing parts touched one known = sym (refs_of_one parts touched one [])
    ∙ values_missing parts touched (one ∷ []) (and_from (is_known_value parts one) true known refl)

-- What is left of a bag by a removal: what holds of all items holds of those that are left, and of the removed one.
record IsLess (test : Value → Bool) (item : Value) (pairs less : List (Value × ℕ)) : Type 0 where
  pub all : list_all (λ pair. test pair.0) less ≡ true
  pub here : test item ≡ true
  pub few : length less ≤ length pairs

module _ (item : Value) where
  more_by : (test : Value → Bool) (pair : Value × ℕ) (rest more : List (Value × ℕ)) (o : Ordering) → value_order pair.0 item ≡ o
      → test pair.0 ≡ true → list_all (λ p. test p.0) rest ≡ true → list_all (λ p. test p.0) more ≡ test item
      → list_all (λ p. test p.0) (match_ordering o (pair ∷ more) ((pair.0, bags.one_more pair.1) ∷ rest) ((item, 1) ∷ pair ∷ rest))
      ≡ test item
  more_by test pair rest more Less is first others all = ap (λ a. a && list_all (λ p. test p.0) more) first ∙ all
  more_by test pair rest more Equal is first others all =
      ap₂ (λ a b. a && b) (ap test (ties pair.0 item is)) others ∙ last_true (test item)
  more_by test pair rest more Greater is first others all =
      ap (λ a. test item && a) (and_from (test pair.0) (list_all (λ p. test p.0) rest) first others) ∙ last_true (test item)

  all_more : (test : Value → Bool) (pairs : List (Value × ℕ)) → list_all (λ p. test p.0) pairs ≡ true
      → list_all (λ p. test p.0) (bags.with_one_more value_order item pairs) ≡ test item
  all_more test [] all = last_true (test item)
  all_more test (pair ∷ rest) all =
      let both = and_parts (test pair.0) (list_all (λ p. test p.0) rest) all in
      more_by test pair rest (bags.with_one_more value_order item rest) (value_order pair.0 item) refl both.0 both.1
      (all_more test rest both.1)

  lacks_by : (parts : Parts) (touched : List ℕ) (pair : Value × ℕ) (rest more : List (Value × ℕ)) (o : Ordering)
      → value_order pair.0 item ≡ o → is_known_value parts pair.0 ≡ true → list_all (λ p. is_known_value parts p.0) rest ≡ true
      → fold (with_missing parts) touched (names_in (values_of more)) ≡ value_missing parts touched item
      → fold (with_missing parts) touched (names_in (values_of
      (match_ordering o (pair ∷ more) ((pair.0, bags.one_more pair.1) ∷ rest) ((item, 1) ∷ pair ∷ rest))))
      ≡ value_missing parts touched item
  lacks_by parts touched pair rest more Less is first others lacks =
      refs_of_one parts touched pair.0 (values_of more)
      ∙ ap (λ begun. fold (with_missing parts) begun (names_in (values_of more))) (known_not_missing parts touched pair.0 first)
      ∙ lacks
  lacks_by parts touched pair rest more Equal is first others lacks =
      refs_of_one parts touched pair.0 (values_of rest)
      ∙ values_missing parts (value_missing parts touched pair.0) (values_of rest) (all_values (is_known_value parts) rest ∙ others)
      ∙ ap (value_missing parts touched) (ties pair.0 item is)
  lacks_by parts touched pair rest more Greater is first others lacks =
      refs_of_one parts touched item (pair.0 ∷ values_of rest)
      ∙ values_missing parts (value_missing parts touched item) (pair.0 ∷ values_of rest)
      (and_from (is_known_value parts pair.0) (list_all (is_known_value parts) (values_of rest)) first
      (all_values (is_known_value parts) rest ∙ others))

  more_lacks : (parts : Parts) (touched : List ℕ) (pairs : List (Value × ℕ)) → list_all (λ p. is_known_value parts p.0) pairs ≡ true
      → fold (with_missing parts) touched (names_in (values_of (bags.with_one_more value_order item pairs)))
      ≡ value_missing parts touched item
  more_lacks parts touched [] all = refs_of_one parts touched item []
  more_lacks parts touched (pair ∷ rest) all =
      let both = and_parts (is_known_value parts pair.0) (list_all (λ p. is_known_value parts p.0) rest) all in
      lacks_by parts touched pair rest (bags.with_one_more value_order item rest) (value_order pair.0 item) refl both.0 both.1
      (more_lacks parts touched rest both.1)

  last_by : (test : Value → Bool) (pair : Value × ℕ) (rest : List (Value × ℕ)) (last : Bool)
      → test pair.0 ≡ true → list_all (λ p. test p.0) rest ≡ true → test item ≡ true
      → IsLess test item (pair ∷ rest) (cond last rest ((pair.0, bags.one_less pair.1) ∷ rest))
  last_by test pair rest true first others here = record { all = others; here = here; few = omega arith }
  last_by test pair rest false first others here = record {
    all = and_from (test pair.0) (list_all (λ p. test p.0) rest) first others;
    here = here;
    few = omega arith;
  }

  less_by : (test : Value → Bool) (pair : Value × ℕ) (rest less : List (Value × ℕ)) (same : Bool)
      → is_eq (value_order pair.0 item) ≡ same → test pair.0 ≡ true → list_all (λ p. test p.0) rest ≡ true
      → cond same (Some (cond (pair.1 == 1) rest ((pair.0, bags.one_less pair.1) ∷ rest)))
      (option_map (λ left. pair ∷ left) (bags.with_one_less value_order item rest)) ≡ Some less
      → ((left : List (Value × ℕ)) → bags.with_one_less value_order item rest ≡ Some left → IsLess test item rest left)
      → IsLess test item (pair ∷ rest) less
  less_by test pair rest less true same first others is more =
      subst (IsLess test item (pair ∷ rest)) (same_Some _ less is)
      (last_by test pair rest (pair.1 == 1) first others
      (sym (ap test (ties pair.0 item ((Equal-is (value_order pair.0 item)).0 same))) ∙ first))
  less_by test pair rest less false same first others is more =
      let k = kept_first pair (bags.with_one_less value_order item rest) less is in
      let left = more k.0 k.1 in
      let few = left.few in
      subst (IsLess test item (pair ∷ rest)) (sym k.2) (record {
        all = and_from (test pair.0) (list_all (λ p. test p.0) k.0) first left.all;
        here = left.here;
        few = omega (arith, few);
      })

  all_less : (test : Value → Bool) (pairs less : List (Value × ℕ)) → list_all (λ p. test p.0) pairs ≡ true
      → bags.with_one_less value_order item pairs ≡ Some less → IsLess test item pairs less
  all_less test [] less all is = absurd (cc)
  all_less test (pair ∷ rest) less all is =
      let both = and_parts (test pair.0) (list_all (λ p. test p.0) rest) all in
      less_by test pair rest less (is_eq (value_order pair.0 item)) refl both.0 both.1 is
      (λ left there. all_less test rest left both.1 there)

-- ---- pairs of a dictionary whose keys ascend

module _ (key value : Value) where
  put_by : (test : Value × Value → Bool) (pair : Value × Value) (rest more : List (Value × Value)) (o : Ordering)
      → test pair ≡ true → list_all test rest ≡ true → list_all test more ≡ test (key, value)
      → list_all test (match_ordering o (pair ∷ more) ((key, value) ∷ rest) ((key, value) ∷ pair ∷ rest)) ≡ test (key, value)
  put_by test pair rest more Less first others all = ap (λ a. a && list_all test more) first ∙ all
  put_by test pair rest more Equal first others all = ap (λ a. test (key, value) && a) others ∙ last_true (test (key, value))
  put_by test pair rest more Greater first others all =
      ap (λ a. test (key, value) && a) (and_from (test pair) (list_all test rest) first others) ∙ last_true (test (key, value))

  all_put : (test : Value × Value → Bool) (pairs : List (Value × Value)) → list_all test pairs ≡ true
      → list_all test (dicts.put value_order key value pairs) ≡ test (key, value)
  all_put test [] all = last_true (test (key, value))
  all_put test (pair ∷ rest) all =
      let both = and_parts (test pair) (list_all test rest) all in
      put_by test pair rest (dicts.put value_order key value rest) (value_order pair.0 key) both.0 both.1 (all_put test rest both.1)

  put_lacks_by : (parts : Parts) (touched : List ℕ) (pair : Value × Value) (rest more : List (Value × Value)) (o : Ordering)
      → pair_known parts pair ≡ true → list_all (pair_known parts) rest ≡ true
      → fold (with_missing parts) touched (names_in_pairs more) ≡ value_missing parts (value_missing parts touched key) value
      → fold (with_missing parts) touched (names_in_pairs (match_ordering o (pair ∷ more) ((key, value) ∷ rest) ((key, value) ∷ pair ∷ rest)))
      ≡ value_missing parts (value_missing parts touched key) value
  unfolding pair_known
  put_lacks_by parts touched pair rest more Less first others lacks =
      fold-append (with_missing parts) touched (names_in (pair.0 ∷ pair.1 ∷ [])) (names_in_pairs more)
      ∙ ap (λ begun. fold (with_missing parts) begun (names_in_pairs more))
      (values_missing parts touched (pair.0 ∷ pair.1 ∷ []) first)
      ∙ lacks
  put_lacks_by parts touched pair rest more Equal first others lacks =
      fold-append (with_missing parts) touched (names_in (key ∷ value ∷ [])) (names_in_pairs rest)
      ∙ none_missing parts (names_in_pairs rest) _ (pairs_known parts rest ∙ others)
      ∙ pair_missing key value parts touched
  put_lacks_by parts touched pair rest more Greater first others lacks =
      fold-append (with_missing parts) touched (names_in (key ∷ value ∷ [])) (names_in_pairs (pair ∷ rest))
      ∙ none_missing parts (names_in_pairs (pair ∷ rest)) _ (pairs_known parts (pair ∷ rest)
      ∙ and_from (pair_known parts pair) (list_all (pair_known parts) rest) first others)
      ∙ pair_missing key value parts touched

  put_lacks : (parts : Parts) (touched : List ℕ) (pairs : List (Value × Value)) → list_all (pair_known parts) pairs ≡ true
      → fold (with_missing parts) touched (names_in_pairs (dicts.put value_order key value pairs))
      ≡ value_missing parts (value_missing parts touched key) value
  put_lacks parts touched [] all = fold-append (with_missing parts) touched (names_in (key ∷ value ∷ [])) (names_in_pairs [])
      ∙ pair_missing key value parts touched
  put_lacks parts touched (pair ∷ rest) all =
      let both = and_parts (pair_known parts pair) (list_all (pair_known parts) rest) all in
      put_lacks_by parts touched pair rest (dicts.put value_order key value rest) (value_order pair.0 key) both.0 both.1
      (put_lacks parts touched rest both.1)

-- what is left of a dictionary without a key
module _ (key : Value) where
  without_by : (test : Value × Value → Bool) (pair : Value × Value) (rest left : List (Value × Value)) (same : Bool)
      → test pair ≡ true → list_all test rest ≡ true → list_all test left ≡ true
      → list_all test (cond same rest (pair ∷ left)) ≡ true
  without_by test pair rest left true first others fewer = others
  without_by test pair rest left false first others fewer = and_from (test pair) (list_all test left) first fewer

  all_without : (test : Value × Value → Bool) (pairs : List (Value × Value)) → list_all test pairs ≡ true
      → list_all test (dicts.without value_order key pairs) ≡ true
  all_without test [] all = refl
  all_without test (pair ∷ rest) all =
      let both = and_parts (test pair) (list_all test rest) all in
      without_by test pair rest (dicts.without value_order key rest) (is_eq (value_order pair.0 key)) both.0 both.1
      (all_without test rest both.1)

  few_by : (pair : Value × Value) (rest left : List (Value × Value)) (same : Bool) → length left ≤ length rest
      → length (cond same rest (pair ∷ left)) ≤ suc (length rest)
  few_by pair rest left true few = omega arith
  few_by pair rest left false few = omega (arith, few)

  few_without : (pairs : List (Value × Value)) → length (dicts.without value_order key pairs) ≤ length pairs
  few_without [] = omega arith
  few_without (pair ∷ rest) = few_by pair rest (dicts.without value_order key rest) (is_eq (value_order pair.0 key)) (few_without rest)

  key_by : (test : Value → Bool) (pair : Value × Value) (found : Option Value) (same : Bool)
      → is_eq (value_order pair.0 key) ≡ same → test pair.0 ≡ true
      → is_some (cond same (Some pair.1) found) ≡ true → (is_some found ≡ true → test key ≡ true) → test key ≡ true
  key_by test pair found true same first some more =
      sym (ap test (ties pair.0 key ((Equal-is (value_order pair.0 key)).0 same))) ∙ first
  key_by test pair found false same first some more = more some

  key_there : (test : Value → Bool) (pairs : List (Value × Value)) → list_all (λ p. test p.0) pairs ≡ true
      → is_some (dicts.entry value_order key pairs) ≡ true → test key ≡ true
  key_there test [] all some = absurd (false≢true some)
  key_there test (pair ∷ rest) all some =
      let both = and_parts (test pair.0) (list_all (λ p. test p.0) rest) all in
      key_by test pair (dicts.entry value_order key rest) (is_eq (value_order pair.0 key)) refl both.0 some
      (key_there test rest both.1)

first_of_pairs : (pairs : List (Value × Value)) → list_all is_storable_pair pairs ≡ true
    → list_all (λ pair. is_storable pair.0) pairs ≡ true
first_of_pairs [] all = refl
first_of_pairs (pair ∷ rest) all =
    let both = and_parts (is_storable_pair pair) (list_all is_storable_pair rest) all in
    and_from (is_storable pair.0) (list_all (λ p. is_storable p.0) rest) (and_parts (is_storable pair.0) (is_storable pair.1) both.0).0
    (first_of_pairs rest both.1)

-- ---- bodies of one class fit alike

kernel_counter : (found : Option KernelBody) (one other : Counter) → kernel_fits_by found (body.Counter one) ≡ kernel_fits_by found (body.Counter other)
kernel_counter None one other = refl
kernel_counter (Some a_class) one other = refl
kernel_counter (Some a_dictionary) one other = refl
kernel_counter (Some a_segment) one other = refl
kernel_counter (Some a_user) one other = refl
kernel_counter (Some no_slots) one other = refl

kernel_bag : (found : Option KernelBody) (one other : List (Value × ℕ)) → kernel_fits_by found (body.Bag one) ≡ kernel_fits_by found (body.Bag other)
kernel_bag None one other = refl
kernel_bag (Some a_class) one other = refl
kernel_bag (Some a_dictionary) one other = refl
kernel_bag (Some a_segment) one other = refl
kernel_bag (Some a_user) one other = refl
kernel_bag (Some no_slots) one other = refl

kernel_dict : (found : Option KernelBody) (one other : List (Value × Value)) → kernel_fits_by found (body.RcDict one) ≡ kernel_fits_by found (body.RcDict other)
kernel_dict None one other = refl
kernel_dict (Some a_class) one other = refl
kernel_dict (Some a_dictionary) one other = refl
kernel_dict (Some a_segment) one other = refl
kernel_dict (Some a_user) one other = refl
kernel_dict (Some no_slots) one other = refl

kernel_queue : (found : Option KernelBody) (one other : Line Value) → kernel_fits_by found (body.Queue one) ≡ kernel_fits_by found (body.Queue other)
kernel_queue None one other = refl
kernel_queue (Some a_class) one other = refl
kernel_queue (Some a_dictionary) one other = refl
kernel_queue (Some a_segment) one other = refl
kernel_queue (Some a_user) one other = refl
kernel_queue (Some no_slots) one other = refl

counter_kind : (one : Kind) (x y : Counter) → kinds.fits one (body.Counter x) ≡ kinds.fits one (body.Counter y)
counter_kind kind.Counter x y = refl
counter_kind _ x y = refl

bag_kind : (one : Kind) (x y : List (Value × ℕ)) → kinds.fits one (body.Bag x) ≡ kinds.fits one (body.Bag y)
bag_kind kind.Bag x y = refl
bag_kind _ x y = refl

dict_kind : (one : Kind) (x y : List (Value × Value)) → kinds.fits one (body.RcDict x) ≡ kinds.fits one (body.RcDict y)
dict_kind kind.RcDict x y = refl
dict_kind _ x y = refl

queue_kind : (one : Kind) (x y : Line Value) → kinds.fits one (body.Queue x) ≡ kinds.fits one (body.Queue y)
queue_kind kind.Queue x y = refl
queue_kind _ x y = refl

-- Two bodies are of one class, as the guard sees it.
record AreAlike (name : ℕ) (one other : Body) : Type 0 where
  pub fits : (k : Kind) → kinds.fits k other ≡ kinds.fits k one
  pub slots : has_slots other ≡ has_slots one
  pub special : (class : ℕ) → (is_class_object class other || is_transcript class other) ≡ (is_class_object class one || is_transcript class one)
  pub kernel : kernel_fits name other ≡ kernel_fits name one
  pub kind : body_kind other ≡ body_kind one
  pub part : class_part other ≡ class_part one
  pub named : (parts : Parts) → named_fit parts other ≡ true
  pub methods : methods_fit name other ≡ true

alike_counter : (name : ℕ) (x y : Counter) → AreAlike name (body.Counter x) (body.Counter y)
alike_counter name x y = record {
  fits = λ k. counter_kind k y x;
  slots = refl;
  special = λ class. refl;
  kernel = kernel_counter (kernel_body name) y x;
  kind = refl;
  part = refl;
  named = λ parts. refl;
  methods = refl;
}

alike_bag : (name : ℕ) (x y : List (Value × ℕ)) → AreAlike name (body.Bag x) (body.Bag y)
alike_bag name x y = record {
  fits = λ k. bag_kind k y x;
  slots = refl;
  special = λ class. refl;
  kernel = kernel_bag (kernel_body name) y x;
  kind = refl;
  part = refl;
  named = λ parts. refl;
  methods = refl;
}

alike_dict : (name : ℕ) (x y : List (Value × Value)) → AreAlike name (body.RcDict x) (body.RcDict y)
alike_dict name x y = record {
  fits = λ k. dict_kind k y x;
  slots = refl;
  special = λ class. refl;
  kernel = kernel_dict (kernel_body name) y x;
  kind = refl;
  part = refl;
  named = λ parts. refl;
  methods = refl;
}

alike_queue : (name : ℕ) (x y : Line Value) → AreAlike name (body.Queue x) (body.Queue y)
alike_queue name x y = record {
  fits = λ k. queue_kind k y x;
  slots = refl;
  special = λ class. refl;
  kernel = kernel_queue (kernel_body name) y x;
  kind = refl;
  part = refl;
  named = λ parts. refl;
  methods = refl;
}

accepts_alike : (parts : Parts) (name class : ℕ) (found : Option Fixed) (one other : Body) → AreAlike name one other
    → holds_of (λ fixed. accepts_by parts class other fixed.as_class) found
    ≡ holds_of (λ fixed. accepts_by parts class one fixed.as_class) found
accepts_alike parts name class None one other alike = refl
accepts_alike parts name class (Some fixed) one other alike = by fixed.as_class
  where
    by : (part : Option ClassPart) → accepts_by parts class other part ≡ accepts_by parts class one part
    by None = refl
    by (Some part) = ap₂ (λ a b. a || b)
        (ap₂ (λ a b. a && b) (alike.fits part.kind) (ap (λ test. holds_of test (names_at parts class)) alike.slots))
        (alike.special class)

module _ (setting : Setting) (world : World) (name : ℕ) (old : Contents)
    (sound : AreSound setting world) (there : shown name setting world ≡ Some old) where
  alike_fixed : (one other : Body) → old.body ≡ one → AreAlike name one other → fixed_of (with_body other old) ≡ fixed_of old
  alike_fixed one other is alike = ap₂ (λ (kind : BodyKind) (part : Option ClassPart). record { class = old.class; kind = kind; as_class = part })
      (alike.kind ∙ sym (ap body_kind is)) (alike.part ∙ sym (ap class_part is))

  -- what is left to be asked of a body of the same class
  alike_fit : (one other : Body) → old.body ≡ one → AreAlike name one other
      → may_replace name old (with_body other old) setting world
      ≡ (list_all (is_known (fixed_by setting world)) (names_in_body other) && is_spelled other)
  alike_fit one other is alike =
      let parts : Parts = fixed_by setting world in
      let rest = old_rest setting world name old sound there in
      let taken : accepts parts old.class other ≡ true = accepts_alike parts name old.class (parts old.class) one other alike
      ∙ sym (ap (λ (b : Body). accepts parts old.class b) is) ∙ rest.0 in
      let kernel : kernel_fits name other ≡ true = alike.kernel ∙ sym (ap (λ (b : Body). kernel_fits name b) is) ∙ rest.1.0 in
      let named : named_fit parts other ≡ true = alike.named parts in
      let methods : methods_fit name other ≡ true = alike.methods in
      replace_is setting world name old sound there (with_body other old) (alike_fixed one other is alike)
      ∙ body_fits setting world name old sound there other (alike.part ∙ sym (ap class_part is))
      ∙ rw (taken, named, kernel, methods) refl

  own_known : (one : Body) → old.body ≡ one → list_all (is_known (fixed_by setting world)) (names_in_body one) ≡ true
  own_known one is = sym (ap (λ (b : Body). list_all (is_known (fixed_by setting world)) (names_in_body b)) is)
      ∙ old_known setting world name old sound there

  own_spelled : (one : Body) → old.body ≡ one → is_spelled one ≡ true
  own_spelled one is = sym (ap is_spelled is) ∙ (old_rest setting world name old sound there).1.1

-- ---- which bodies can be stored after an update

-- the law of updates of stored bodies
abbrev pub SpellingStays : Type 0
SpellingStays = (update : Update) (body after : Body) → IsSpelledBody body → IsStorableUpdate update
    → updated update body ≡ Some after → entries_of after < 2 ^ 32 → IsSpelledBody after

all_stored : (values : List Value) → length values < 2 ^ 32 → list_all is_storable values ≡ true → All IsStorable values
unfolding is_spelled
all_stored values few stored = ((tells_spelled (body.Plain values)).to
    (and_from (can_count (length values)) (list_all is_storable values) (lt-ltb (length values) (2 ^ 32) few) stored)).each

spelled_after : SpellingStays → (update : Update) (one after : Body) → is_spelled one ≡ true
    → All IsStorable (values_in_update update) → HasKey update → updated update one ≡ Some after
    → can_count (entries_of after) ≡ true → is_spelled after ≡ true
spelled_after stays update one after spelled stored key is few = (tells_spelled after).from
    (stays update one after ((tells_spelled one).to spelled) (record { values = stored; key = key }) is
    (ltb-true (entries_of after) (2 ^ 32) few))

two_tests : (count stored rest : Bool) → (count ≡ true → stored ≡ true → (count && (stored && rest)) ≡ true)
    → (count && (stored && rest)) ≡ (count && stored)
two_tests false stored rest all = refl
two_tests true false rest all = refl
two_tests true true rest all = all refl refl

three_tests : (count stored ascend keys : Bool) → (count ≡ true → stored ≡ true → keys ≡ true → (count && (stored && (ascend && keys))) ≡ true)
    → (count && (stored && (ascend && keys))) ≡ (count && (stored && keys))
three_tests false stored ascend keys all = refl
three_tests true false ascend keys all = refl
three_tests true true true false all = refl
three_tests true true false false all = refl
three_tests true true ascend true all = all refl refl refl

one_value : (known stored count : Bool) → (known && (count && stored)) ≡ (((known && stored) && true) && (true && count))
one_value false stored count = refl
one_value true true true = refl
one_value true true false = refl
one_value true false true = refl
one_value true false false = refl

two_values : (kk kv sk sv key count : Bool) → ((kk && (kv && true)) && (count && ((sk && sv) && key)))
    ≡ (((kk && sk) && ((kv && sv) && true)) && (key && count))
two_values false kv sk sv key count = refl
two_values true false true sv key count = refl
two_values true false false sv key count = refl
two_values true true false sv key true = refl
two_values true true false sv key false = refl
two_values true true true false key true = refl
two_values true true true false key false = refl
two_values true true true true true true = refl
two_values true true true true true false = refl
two_values true true true true false true = refl
two_values true true true true false false = refl

accepted : {X F : Type 0} (made : X → Body) (found : Option X) (fault : F) (after : Body)
    → option_map made (result_ok (ok_or found fault)) ≡ Some after → (x : X) × (found ≡ Some x) × (made x ≡ after)
accepted made None fault after is = absurd (cc)
accepted made (Some x) fault after is = (x, refl, cc)

in_range : (number : ℤ) (small : Bool) (counter : Counter) → is_small_integer number ≡ small
    → option_map (λ (v : ℤ). record { value = v }) (cond small (Some number) None) ≡ Some counter
    → is_small_integer counter.value ≡ true
in_range number true counter small is =
    let same : number ≡ counter.value = ap (λ (c : Counter). c.value) (same_Some _ counter is) in
    sym (ap is_small_integer same) ∙ small
in_range number false counter small is = absurd (cc)

when_some : (b : Bool) (x after : List (Value × Value)) → cond b (Some x) None ≡ Some after → (b ≡ true) × (x ≡ after)
when_some true x after is = (refl, cc)
when_some false x after is = absurd (cc)

-- What is left of a queue whose front is removed.
record IsRest (test : Value → Bool) (item : Value) (items : List Value) (after : Line Value) : Type 0 where
  pub all : list_all test after.items ≡ true
  pub removed : after.removed < 2 ^ 64
  pub few : length after.items ≤ length items

rest_by : (test : Value → Bool) (item front : Value) (removed : ℕ) (rest : List Value) (after : Line Value) (same : Bool)
    → list_all test rest ≡ true
    → cond same (Some (record { removed = queues.one_removal_more removed; items = rest })) None ≡ Some after
    → IsRest test item (front ∷ rest) after
rest_by test item front removed rest after true all is =
    let kept : IsRest test item (front ∷ rest) (record { removed = queues.one_removal_more removed; items = rest })
    = record { all = all; removed = omega arith; few = omega arith } in
    subst (IsRest test item (front ∷ rest)) (same_Some _ after is) kept
rest_by test item front removed rest after false all is = absurd (cc)

all_rest : (test : Value → Bool) (item : Value) (removed : ℕ) (items : List Value) (after : Line Value) → list_all test items ≡ true
    → queues.without_front value_order item removed items ≡ Some after → IsRest test item items after
all_rest test item removed [] after all is = absurd (cc)
all_rest test item removed (front ∷ rest) after all is =
    rest_by test item front removed rest after (is_eq (value_order front item)) (and_parts (test front) (list_all test rest) all).1 is

fewer : (count more : ℕ) → count ≤ more → can_count more ≡ true → can_count count ≡ true
fewer count more few fits =
    let bound : more < 4294967296 = ltb-true more 4294967296 fits in
    lt-ltb count 4294967296 (omega (arith, few, bound))

-- ---- each update

module _ (stays : SpellingStays) (setting : Setting) (world : World) (name : ℕ) (old : Contents)
    (sound : AreSound setting world) (there : shown name setting world ≡ Some old) where
  counter_fit : (counter after : Counter) → old.body ≡ body.Counter counter → is_small_integer after.value ≡ true
      → may_replace name old (with_body (body.Counter after) old) setting world ≡ true
  unfolding is_spelled
  counter_fit counter after is small =
      alike_fit setting world name old sound there (body.Counter counter) (body.Counter after) is (alike_counter name counter after) ∙ small

  bag_add_fit : (item : Value) (pairs : List (Value × ℕ)) → old.body ≡ body.Bag pairs
      → may_replace name old (with_body (body.Bag (bags.with_one_more value_order item pairs)) old) setting world
      ≡ may_update (fixed_by setting world) (change.Bag (bag.Add item)) (body.Bag pairs)
  unfolding is_spelled
  bag_add_fit item pairs is =
      let parts : Parts = fixed_by setting world in
      let new : List (Value × ℕ) = bags.with_one_more value_order item pairs in
      let whole = own_spelled setting world name old sound there (body.Bag pairs) is in
      let count = and_parts (can_count (length pairs)) _ whole in
      let stored = and_parts (list_all (λ pair. is_storable pair.0) pairs) _ count.1 in
      let own = sym (items_known parts pairs) ∙ own_known setting world name old sound there (body.Bag pairs) is in
      let known : list_all (is_known parts) (names_in_items new) ≡ is_known_value parts item =
      items_known parts new ∙ all_more item (is_known_value parts) pairs own in
      let storable : list_all (λ pair. is_storable pair.0) new ≡ is_storable item = all_more item is_storable pairs stored.0 in
      alike_fit setting world name old sound there (body.Bag pairs) (body.Bag new) is (alike_bag name pairs new)
      ∙ ap₂ (λ a b. a && b) known
      (two_tests (can_count (length new)) (list_all (λ pair. is_storable pair.0) new) _ (λ few all.
      spelled_after stays (change.Bag (bag.Add item)) (body.Bag pairs) (body.Bag new) whole
      (all_stored (item ∷ []) (omega arith) (last_true (is_storable item) ∙ sym storable ∙ all)) tt refl few)
      ∙ ap (λ b. can_count (length new) && b) storable)
      ∙ one_value (is_known_value parts item) (is_storable item) (can_count (length new))

  bag_less_fit : (item : Value) (pairs less : List (Value × ℕ)) → old.body ≡ body.Bag pairs
      → bags.with_one_less value_order item pairs ≡ Some less
      → may_replace name old (with_body (body.Bag less) old) setting world ≡ true
  unfolding is_spelled
  bag_less_fit item pairs less is removed =
      let parts : Parts = fixed_by setting world in
      let whole = own_spelled setting world name old sound there (body.Bag pairs) is in
      let count = and_parts (can_count (length pairs)) _ whole in
      let stored = and_parts (list_all (λ pair. is_storable pair.0) pairs) _ count.1 in
      let own = sym (items_known parts pairs) ∙ own_known setting world name old sound there (body.Bag pairs) is in
      let known = all_less item (is_known_value parts) pairs less own removed in
      let storable = all_less item is_storable pairs less stored.0 removed in
      let done : updated (change.Bag (bag.Remove item)) (body.Bag pairs) ≡ Some (body.Bag less) =
      ap (λ found. option_map body.Bag (result_ok (ok_or found (bag_fault.Missing 0)))) removed in
      alike_fit setting world name old sound there (body.Bag pairs) (body.Bag less) is (alike_bag name pairs less)
      ∙ and_from (list_all (is_known parts) (names_in_items less)) (is_spelled (body.Bag less))
      (items_known parts less ∙ known.all)
      (spelled_after stays (change.Bag (bag.Remove item)) (body.Bag pairs) (body.Bag less) whole
      (all_stored (item ∷ []) (omega arith) (last_true (is_storable item) ∙ storable.here)) tt done
      (fewer (length less) (length pairs) storable.few count.0))

  dict_put_fit : (key value : Value) (pairs : List (Value × Value)) → old.body ≡ body.RcDict pairs
      → may_replace name old (with_body (body.RcDict (dicts.put value_order key value pairs)) old) setting world
      ≡ may_update (fixed_by setting world) (change.RcDict (dict.Put key value)) (body.RcDict pairs)
  unfolding is_spelled pair_known
  dict_put_fit key value pairs is =
      let parts : Parts = fixed_by setting world in
      let new : List (Value × Value) = dicts.put value_order key value pairs in
      let whole = own_spelled setting world name old sound there (body.RcDict pairs) is in
      let count = and_parts (can_count (length pairs)) _ whole in
      let stored = and_parts (list_all is_storable_pair pairs) _ count.1 in
      let keys = and_parts _ (list_all (λ pair. is_key pair.0) pairs) stored.1 in
      let own = sym (pairs_known parts pairs) ∙ own_known setting world name old sound there (body.RcDict pairs) is in
      let known : list_all (is_known parts) (names_in_pairs new) ≡ pair_known parts (key, value) =
      pairs_known parts new ∙ all_put key value (pair_known parts) pairs own in
      let storable : list_all is_storable_pair new ≡ is_storable_pair (key, value) = all_put key value is_storable_pair pairs stored.0 in
      let good : list_all (λ pair. is_key pair.0) new ≡ is_key key = all_put key value (λ pair. is_key pair.0) pairs keys.1 in
      alike_fit setting world name old sound there (body.RcDict pairs) (body.RcDict new) is (alike_dict name pairs new)
      ∙ ap₂ (λ a b. a && b) known
      (three_tests (can_count (length new)) (list_all is_storable_pair new) _ (list_all (λ pair. is_key pair.0) new) (λ few all good_keys.
      let both = and_parts (is_storable key) (is_storable value) (sym storable ∙ all) in
      spelled_after stays (change.RcDict (dict.Put key value)) (body.RcDict pairs) (body.RcDict new) whole
      (all_stored (key ∷ value ∷ []) (omega arith) (and_from (is_storable key) _ both.0 (last_true (is_storable value) ∙ both.1)))
      (sym good ∙ good_keys) refl few)
      ∙ ap₂ (λ a b. can_count (length new) && (a && b)) storable good)
      ∙ two_values (is_known_value parts key) (is_known_value parts value) (is_storable key) (is_storable value) (is_key key)
      (can_count (length new))

  dict_less_fit : (key : Value) (pairs : List (Value × Value)) → old.body ≡ body.RcDict pairs
      → is_some (dicts.entry value_order key pairs) ≡ true
      → may_replace name old (with_body (body.RcDict (dicts.without value_order key pairs)) old) setting world ≡ true
  unfolding is_spelled
  dict_less_fit key pairs is has =
      let parts : Parts = fixed_by setting world in
      let new : List (Value × Value) = dicts.without value_order key pairs in
      let whole = own_spelled setting world name old sound there (body.RcDict pairs) is in
      let count = and_parts (can_count (length pairs)) _ whole in
      let stored = and_parts (list_all is_storable_pair pairs) _ count.1 in
      let keys = and_parts _ (list_all (λ pair. is_key pair.0) pairs) stored.1 in
      let own = sym (pairs_known parts pairs) ∙ own_known setting world name old sound there (body.RcDict pairs) is in
      let done : updated (change.RcDict (dict.Remove key)) (body.RcDict pairs) ≡ Some (body.RcDict new) =
      ap (λ b. option_map body.RcDict (result_ok (ok_or (cond b (Some new) None) (dict_fault.Key 0)))) has in
      alike_fit setting world name old sound there (body.RcDict pairs) (body.RcDict new) is (alike_dict name pairs new)
      ∙ and_from (list_all (is_known parts) (names_in_pairs new)) (is_spelled (body.RcDict new))
      (pairs_known parts new ∙ all_without key (pair_known parts) pairs own)
      (spelled_after stays (change.RcDict (dict.Remove key)) (body.RcDict pairs) (body.RcDict new) whole
      (all_stored (key ∷ []) (omega arith) (last_true (is_storable key)
      ∙ key_there key is_storable pairs (first_of_pairs pairs stored.0) has))
      (key_there key is_key pairs keys.1 has) done
      (fewer (length new) (length pairs) (few_without key pairs) count.0))

  queue_add_fit : (item : Value) (line : Line Value) → old.body ≡ body.Queue line
      → may_replace name old (with_body (body.Queue (record { removed = line.removed; items = line.items ++ item ∷ [] })) old) setting world
      ≡ may_update (fixed_by setting world) (change.Queue (queue.Add item)) (body.Queue line)
  unfolding is_spelled
  queue_add_fit item line is =
      let parts : Parts = fixed_by setting world in
      let items : List Value = line.items ++ item ∷ [] in
      let new : Line Value = record { removed = line.removed; items = items } in
      let whole = own_spelled setting world name old sound there (body.Queue line) is in
      let removed = and_parts (nat_lt line.removed (2 ^ 64)) _ whole in
      let count = and_parts (can_count (length line.items)) (list_all is_storable line.items) removed.1 in
      let own = sym (all_known parts line.items) ∙ own_known setting world name old sound there (body.Queue line) is in
      let known : list_all (is_known parts) (names_in items) ≡ is_known_value parts item =
      all_known parts items ∙ list_all-append (is_known_value parts) line.items (item ∷ [])
      ∙ ap (λ b. b && (is_known_value parts item && true)) own ∙ last_true (is_known_value parts item) in
      let storable : list_all is_storable items ≡ is_storable item = list_all-append is_storable line.items (item ∷ [])
      ∙ ap (λ b. b && (is_storable item && true)) count.1 ∙ last_true (is_storable item) in
      let long : can_count (length items) ≡ can_count (length line.items + 1) = ap can_count (length-append line.items (item ∷ [])) in
      alike_fit setting world name old sound there (body.Queue line) (body.Queue new) is (alike_queue name line new)
      ∙ ap₂ (λ a b. a && b) known
      (ap (λ b. b && (can_count (length items) && list_all is_storable items)) removed.0
      ∙ ap₂ (λ a b. a && b) long storable)
      ∙ one_value (is_known_value parts item) (is_storable item) (can_count (length line.items + 1))

  queue_less_fit : (item : Value) (line after : Line Value) → old.body ≡ body.Queue line
      → queues.without_front value_order item line.removed line.items ≡ Some after
      → may_replace name old (with_body (body.Queue after) old) setting world ≡ true
  unfolding is_spelled
  queue_less_fit item line after is gone =
      let parts : Parts = fixed_by setting world in
      let whole = own_spelled setting world name old sound there (body.Queue line) is in
      let removed = and_parts (nat_lt line.removed (2 ^ 64)) _ whole in
      let count = and_parts (can_count (length line.items)) (list_all is_storable line.items) removed.1 in
      let own = sym (all_known parts line.items) ∙ own_known setting world name old sound there (body.Queue line) is in
      let known = all_rest (is_known_value parts) item line.removed line.items after own gone in
      let storable = all_rest is_storable item line.removed line.items after count.1 gone in
      alike_fit setting world name old sound there (body.Queue line) (body.Queue after) is (alike_queue name line after)
      ∙ and_from (list_all (is_known parts) (names_in after.items)) (is_spelled (body.Queue after))
      (all_known parts after.items ∙ known.all)
      (and_from (nat_lt after.removed (2 ^ 64)) _ (lt-ltb after.removed (2 ^ 64) storable.removed)
      (and_from (can_count (length after.items)) (list_all is_storable after.items)
      (fewer (length after.items) (length line.items) storable.few count.0) storable.all))

  replaced_as : (one after : Body) (may : Bool) → one ≡ after
      → may_replace name old (with_body one old) setting world ≡ may → may_replace name old (with_body after old) setting world ≡ may
  replaced_as one after may same fit = sym (ap (λ (b : Body). may_replace name old (with_body b old) setting world) same) ∙ fit

  fits_by : (update : Update) (one after : Body) → old.body ≡ one → updated update one ≡ Some after
      → may_replace name old (with_body after old) setting world ≡ may_update (fixed_by setting world) update one
  fits_by (change.Counter by) (body.Counter counter) after is done =
      let found = accepted body.Counter (option_map (λ (v : ℤ). record { value = v }) (counters.updated by counter.value)) (record {}) after done in
      let number : ℤ = counter.value +ℤ by in
      replaced_as (body.Counter found.0) after true found.2
      (counter_fit counter found.0 is (in_range number (is_small_integer number) found.0 refl found.1))
  fits_by (change.Bag (bag.Add item)) (body.Bag pairs) after is done =
      replaced_as (body.Bag (bags.with_one_more value_order item pairs)) after _ (same_Some _ after done) (bag_add_fit item pairs is)
  fits_by (change.Bag (bag.Remove item)) (body.Bag pairs) after is done =
      let found = accepted body.Bag (bags.with_one_less value_order item pairs) (bag_fault.Missing 0) after done in
      replaced_as (body.Bag found.0) after true found.2 (bag_less_fit item pairs found.0 is found.1)
  fits_by (change.RcDict (dict.Put key value)) (body.RcDict pairs) after is done =
      replaced_as (body.RcDict (dicts.put value_order key value pairs)) after _ (same_Some _ after done) (dict_put_fit key value pairs is)
  fits_by (change.RcDict (dict.Remove key)) (body.RcDict pairs) after is done =
      let found = accepted body.RcDict (dicts.updated value_order (dict.Remove key) pairs) (dict_fault.Key 0) after done in
      let has = when_some (is_some (dicts.entry value_order key pairs)) (dicts.without value_order key pairs) found.0 found.1 in
      replaced_as (body.RcDict (dicts.without value_order key pairs)) after true (ap body.RcDict has.1 ∙ found.2)
      (dict_less_fit key pairs is has.0)
  fits_by (change.Queue (queue.Add item)) (body.Queue line) after is done =
      replaced_as (body.Queue (record { removed = line.removed; items = line.items ++ item ∷ [] })) after _ (same_Some _ after done)
      (queue_add_fit item line is)
  fits_by (change.Queue (queue.Remove item)) (body.Queue line) after is done =
      let found = accepted body.Queue (queues.without_front value_order item line.removed line.items) (queue_fault.Remove 0) after done in
      replaced_as (body.Queue found.0) after true found.2 (queue_less_fit item line found.0 is found.1)
  fits_by _ _ after is done = absurd (cc)

  -- whether the object may stand with the update is what the code tests
  pub update_fits : (update : Update) (after : Body) → updated update old.body ≡ Some after
      → may_replace name old (with_body after old) setting world ≡ may_update (fixed_by setting world) update old.body
  update_fits update after done = fits_by update old.body after refl done

-- ---- what an object lacks with an update

module _ (x : Seen) (name : ℕ) (old : Contents) (sound : IsSoundState x) (there : shown name x.setting x.world ≡ Some old) where
  alike_lacks : (one other : Body) (touched : List ℕ) → old.body ≡ one → AreAlike name one other
      → fold (with_missing (fixed_by x.setting x.world)) x.world.touched (names_in_body other) ≡ touched
      → lacking name (with_body other old) x.setting x.world ≡ record x.world { touched = touched }
  alike_lacks one other touched is alike lacks = body_lacks x name sound old other touched there
      (alike_fixed x.setting x.world name old sound there one other is alike) (alike.part ∙ sym (ap class_part is)) lacks

  lacking_as : (one after : Body) (left : World) → one ≡ after → lacking name (with_body one old) x.setting x.world ≡ left
      → lacking name (with_body after old) x.setting x.world ≡ left
  lacking_as one after left same lacks = sym (ap (λ (b : Body). lacking name (with_body b old) x.setting x.world) same) ∙ lacks

  lacks_of : (update : Update) (one after : Body) → old.body ≡ one → updated update one ≡ Some after
      → may_update (fixed_by x.setting x.world) update one ≡ false
      → lacking name (with_body after old) x.setting x.world ≡ (missed_update update x).world
  lacks_of (change.Counter by) (body.Counter counter) after is done may = absurd (true≢false may)
  lacks_of (change.Bag (bag.Add item)) (body.Bag pairs) after is done may =
      let parts : Parts = fixed_by x.setting x.world in
      let new : List (Value × ℕ) = bags.with_one_more value_order item pairs in
      let own = sym (items_known parts pairs) ∙ own_known x.setting x.world name old sound there (body.Bag pairs) is in
      lacking_as (body.Bag new) after _ (same_Some _ after done)
      (alike_lacks (body.Bag pairs) (body.Bag new) (value_missing parts x.world.touched item) is (alike_bag name pairs new)
      (ap (fold (with_missing parts) x.world.touched) (items_are new) ∙ more_lacks item parts x.world.touched pairs own)
      ∙ value_missed x item)
  lacks_of (change.Bag (bag.Remove item)) (body.Bag pairs) after is done may = absurd (true≢false may)
  lacks_of (change.RcDict (dict.Put key value)) (body.RcDict pairs) after is done may =
      let parts : Parts = fixed_by x.setting x.world in
      let new : List (Value × Value) = dicts.put value_order key value pairs in
      let own = sym (pairs_known parts pairs) ∙ own_known x.setting x.world name old sound there (body.RcDict pairs) is in
      lacking_as (body.RcDict new) after _ (same_Some _ after done)
      (alike_lacks (body.RcDict pairs) (body.RcDict new) (value_missing parts (value_missing parts x.world.touched key) value) is
      (alike_dict name pairs new) (put_lacks key value parts x.world.touched pairs own)
      ∙ both_missed x key value)
  lacks_of (change.RcDict (dict.Remove key)) (body.RcDict pairs) after is done may = absurd (true≢false may)
  lacks_of (change.Queue (queue.Add item)) (body.Queue line) after is done may =
      let parts : Parts = fixed_by x.setting x.world in
      let new : Line Value = record { removed = line.removed; items = line.items ++ item ∷ [] } in
      let own = sym (all_known parts line.items) ∙ own_known x.setting x.world name old sound there (body.Queue line) is in
      lacking_as (body.Queue new) after _ (same_Some _ after done)
      (alike_lacks (body.Queue line) (body.Queue new) (value_missing parts x.world.touched item) is (alike_queue name line new)
      (around_missing parts x.world.touched line.items [] item own refl)
      ∙ value_missed x item)
  lacks_of (change.Queue (queue.Remove item)) (body.Queue line) after is done may = absurd (true≢false may)
  lacks_of _ _ after is done may = absurd (cc)

  pub update_lacks : (update : Update) (after : Body) → updated update old.body ≡ Some after
      → may_update (fixed_by x.setting x.world) update old.body ≡ false
      → lacking name (with_body after old) x.setting x.world ≡ (missed_update update x).world
  update_lacks update after done may = lacks_of update old.body after refl done may

-- an update of another class is refused
pub refused_by : (update : Update) (one : Body) → fits_update update one ≡ false → updated update one ≡ None
refused_by (change.Counter by) (body.Counter counter) apart = absurd (true≢false apart)
refused_by (change.Bag update) (body.Bag pairs) apart = absurd (true≢false apart)
refused_by (change.RcDict update) (body.RcDict pairs) apart = absurd (true≢false apart)
refused_by (change.Queue update) (body.Queue line) apart = absurd (true≢false apart)
refused_by _ _ apart = refl

-- an update that may not stand is an add, and its class takes it
pub taken_by : (parts : Parts) (update : Update) (one : Body) → fits_update update one ≡ true → may_update parts update one ≡ false
    → (after : Body) × (updated update one ≡ Some after)
taken_by parts (change.Counter by) (body.Counter counter) fits may = absurd (true≢false may)
taken_by parts (change.Bag (bag.Add item)) (body.Bag pairs) fits may = (body.Bag (bags.with_one_more value_order item pairs), refl)
taken_by parts (change.Bag (bag.Remove item)) (body.Bag pairs) fits may = absurd (true≢false may)
taken_by parts (change.RcDict (dict.Put key value)) (body.RcDict pairs) fits may = (body.RcDict (dicts.put value_order key value pairs), refl)
taken_by parts (change.RcDict (dict.Remove key)) (body.RcDict pairs) fits may = absurd (true≢false may)
taken_by parts (change.Queue (queue.Add item)) (body.Queue line) fits may =
    (body.Queue (record { removed = line.removed; items = line.items ++ item ∷ [] }), refl)
taken_by parts (change.Queue (queue.Remove item)) (body.Queue line) fits may = absurd (true≢false may)
taken_by parts _ _ fits may = absurd (false≢true fits)

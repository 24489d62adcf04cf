-- The tests of what can be stored tell what has a spelling.
use Rattle.std.proofs.Common.{◌≡◌, ◌≢◌, refl, subst, rules, ℕ, ◌^◌, ◌<◌, ◌≤◌, Bool, true, false, ◌&&◌, not, nat_lt, nat_le, IsTrue, Option, Some, None, List, [], ◌∷◌, length, map}
use Rattle.std.proofs.Math.Path.{fun_ext}
use Rattle.std.specs.List.{All, AllByRecursion, list_all, list_any}
use Rattle.std.specs.List.Sorted.{IsStrictlySortedBy}
use Rattle.std.specs.Option.{IfSome}
use Rattle.std.specs.Ordering.{nat_cmp, is_lt}
use Rattle.std.specs.declared.cmp.Ordering.{Ordering}
use Rattle.std.specs.declared.cmp.Ordering.TheVariants.{Less, Equal, Greater}
use Rattle.std.specs.Cmp.{IsTotalOrder}
use Rattle.std.specs.Cmp.Lexicographic.{slice_cmp, nat_list_cmp_total}
use Rattle.std.proofs.lemmas.Bool.{false≢true, true≢false, and_parts, and_from, or_parts, or_from, ltb-true, lt-ltb, leb-true, le-leb}
use Rattle.std.proofs.lemmas.List.Elements.{All-nil, All-cons, All-head, All-tail}
use Rattle.gem_object.specs.texts.Bytes.{Bytes as Text}
use Rattle.gem_object.specs.texts.SmallInteger.{is_small_integer}
use Rattle.gem_object.specs.seg_rights.declared.right.Right.{Right}
use Rattle.gem_object.specs.seg_rights.declared.right.Right.TheVariants.{None as NoRight, Read, Write}
use Rattle.gem_object.specs.seg_rights.declared.rights.Rights.{Rights}
use Rattle.gem_object.specs.insertion_map.Pairs.{AreDistinct}
use Rattle.gem_object.specs.Order.{value_order, same_value}
use Rattle.gem_object.specs.contracts.value.ValueOrd.TheImpl.{cmp-value}
use Rattle.gem_object.specs.contracts.value.ValueOrd.TheImpl.Laws.{total-law}
use Rattle.gem_object.specs.Spelling.{IsPlainByte, IsOid, IsText, Ascend, IsStorable, AreStorable, IsStorablePair, IsDictionary, IsCode, IsMethod, AreMethods, IsClass, IsSegment, IsUser, IsItems, is_key, IsKeyDictionary, IsSpelledBody}
use Rattle.gem_object.specs.declared.value.Value.{Value}
use Rattle.gem_object.specs.declared.value.Value.TheVariants.{Nil, False, True, Int, Char, Sym, Ref, Block}
use Rattle.gem_object.specs.declared.body.MethodCode.{MethodCode}
use Rattle.gem_object.specs.declared.body.MethodCode.TheVariants.{Source, Primitive}
use Rattle.gem_object.specs.declared.body.Method.{Method}
use Rattle.gem_object.specs.declared.body.ClassBody.{ClassBody}
use Rattle.gem_object.specs.declared.body.UserBody.{UserBody}
use Rattle.gem_object.specs.declared.body.Body.{Body}
use Rattle.gem_object.specs.declared.body.Body.TheVariants.{Plain, Bytes, Dict, Class, Segment, User, Counter, Bag, RcDict, Queue}
use Rattle.object_programs.specs.Spelled.{is_plain_byte, is_text, ascends_after, ascends, texts_ascend, is_storable, are_storable, is_storable_pair, keys_differ, is_nil, is_dictionary_body, is_code, is_method, are_methods, is_superclass, is_class_body, is_given, is_segment_body, is_user_body, occurs, are_items, is_key_dictionary, is_spelled}

-- a test tells a fact
pub record Tells (test : Bool) (P : Type 0) : Type 0 where
  pub to : test ≡ true → P
  pub from : P → test ≡ true

pub tells_all : {X : Type 0} (test : X → Bool) (P : X → Type 0) → ((x : X) → Tells (test x) (P x)) → (xs : List X)
    → Tells (list_all test xs) (All P xs)
tells_all test P each [] = record { to = λ _. All-nil P; from = λ _. refl }
tells_all test P each (x ∷ xs) =
    let rest = tells_all test P each xs in
    record {
      to = λ holds. let both = and_parts (test x) (list_all test xs) holds in
          All-cons P x xs ((each x).to both.0) (rest.to both.1);
      from = λ all. and_from (test x) (list_all test xs) ((each x).from (All-head P x xs all))
          (rest.from (All-tail P x xs all));
    }

tells_lt : (a b : ℕ) → Tells (nat_lt a b) (a < b)
tells_lt a b = record { to = λ holds. ltb-true a b holds; from = λ below. lt-ltb a b below }

tells_le : (a b : ℕ) → Tells (nat_le a b) (a ≤ b)
tells_le a b = record { to = λ holds. leb-true a b holds; from = λ below. le-leb a b below }

pub tells_itself : (test : Bool) → Tells test (IsTrue test)
tells_itself test = record { to = λ holds. holds; from = λ holds. holds }

tells_both : (one other : Bool) (P Q : Type 0) → Tells one P → Tells other Q → Tells (one && other) (P × Q)
tells_both one other P Q first second = record {
  to = λ holds. let both = and_parts one other holds in (first.to both.0, second.to both.1);
  from = λ all. and_from one other (first.from all.0) (second.from all.1);
}

-- ---- lists that ascend

is_less : (order : Ordering) → is_lt order ≡ true → order ≡ Less
is_less Less holds = refl
is_less Equal holds = absurd (false≢true holds)
is_less Greater holds = absurd (false≢true holds)

less_is : (order : Ordering) → order ≡ Less → is_lt order ≡ true
less_is order is = subst (λ some. is_lt some ≡ true) (less_sym order is) refl
  where
    less_sym : (some : Ordering) → some ≡ Less → Less ≡ some
    less_sym some same = cc

module _ {X : Type 0} (order : X → X → Ordering) (total : IsTotalOrder order) where
  below_rest : (first next : X) (rest : List X) → order first next ≡ Less
      → AllByRecursion (λ later. order next later ≡ Less) rest → AllByRecursion (λ later. order first later ≡ Less) rest
  below_rest first next [] below all = tt
  below_rest first next (later ∷ rest) below all =
      (total.trans first next later below all.0, below_rest first next rest below all.1)

  to_after : (first : X) (rest : List X) → ascends_after order first rest ≡ true
      → AllByRecursion (λ later. order first later ≡ Less) rest × IsStrictlySortedBy order rest
  unfolding IsStrictlySortedBy
  to_after first [] holds = (tt, tt)
  to_after first (next ∷ rest) holds =
      let both = and_parts (is_lt (order first next)) (ascends_after order next rest) holds in
      let less = is_less (order first next) both.0 in
      let more = to_after next rest both.1 in
      ((less, below_rest first next rest less more.0), more)

  from_after : (first : X) (rest : List X) → AllByRecursion (λ later. order first later ≡ Less) rest
      → IsStrictlySortedBy order rest → ascends_after order first rest ≡ true
  unfolding IsStrictlySortedBy
  from_after first [] below sorted = refl
  from_after first (next ∷ rest) below sorted =
      and_from (is_lt (order first next)) (ascends_after order next rest)
      (less_is (order first next) below.0) (from_after next rest sorted.0 sorted.1)

  tells_ascends : (xs : List X) → Tells (ascends order xs) (IsStrictlySortedBy order xs)
  unfolding IsStrictlySortedBy
  tells_ascends [] = record { to = λ _. tt; from = λ _. refl }
  tells_ascends (first ∷ rest) = record {
    to = λ holds. to_after first rest holds;
    from = λ sorted. from_after first rest sorted.0 sorted.1;
  }

tells_texts_ascend : (texts : List Text) → Tells (texts_ascend texts) (Ascend texts)
tells_texts_ascend texts = tells_ascends (slice_cmp nat_cmp) nat_list_cmp_total texts

answers_alike : (value other : Value) → cmp-value.it value other ≡ value_order value other
answers_alike value other = search rules

value_order_total : IsTotalOrder value_order
value_order_total = subst IsTotalOrder (fun_ext (λ value. fun_ext (answers_alike value))) total-law

-- ---- values

tells_text : (text : Text) → Tells (is_text text) (IsText text)
tells_text text =
    let each = tells_all is_plain_byte IsPlainByte (λ byte. tells_lt byte 128) text in
    let short = tells_le (length text) 1000 in
    record {
      to = λ holds. let both = and_parts (nat_le (length text) 1000) (list_all is_plain_byte text) holds in
          record { short = short.to both.0; bytes = each.to both.1 };
      from = λ is. and_from (nat_le (length text) 1000) (list_all is_plain_byte text) (short.from is.short)
          (each.from is.bytes);
    }

tells_storable : (value : Value) → Tells (is_storable value) (IsStorable value)
tells_storable Nil = record { to = λ _. tt; from = λ _. refl }
tells_storable False = record { to = λ _. tt; from = λ _. refl }
tells_storable True = record { to = λ _. tt; from = λ _. refl }
tells_storable (Int number) = tells_itself (is_small_integer number)
tells_storable (Char code) = tells_lt code 128
tells_storable (Sym name) = tells_text name
tells_storable (Ref oid) = tells_lt oid (2 ^ 48)
tells_storable (Block block) = record { to = λ holds. absurd (false≢true holds); from = λ none. absurd none }

tells_values : (values : List Value) → Tells (are_storable values) (AreStorable values)
tells_values values =
    let each = tells_all is_storable IsStorable tells_storable values in
    let count = tells_lt (length values) (2 ^ 32) in
    record {
      to = λ holds. let both = and_parts (nat_lt (length values) (2 ^ 32)) (list_all is_storable values) holds in
          record { count = count.to both.0; each = each.to both.1 };
      from = λ are. and_from (nat_lt (length values) (2 ^ 32)) (list_all is_storable values) (count.from are.count)
          (each.from are.each);
    }

tells_pair : (pair : Value × Value) → Tells (is_storable_pair pair) (IsStorablePair pair)
tells_pair pair = tells_both (is_storable pair.0) (is_storable pair.1) (IsStorable pair.0) (IsStorable pair.1)
    (tells_storable pair.0) (tells_storable pair.1)

-- ---- pairs of dictionaries

not_true : (test : Bool) → not test ≡ true → test ≡ false
not_true true holds = absurd (false≢true holds)
not_true false holds = refl

not_false : (test : Bool) → test ≡ false → not test ≡ true
not_false true holds = absurd (true≢false holds)
not_false false holds = refl

to_no_other : (pair : Value × Value) (rest : List (Value × Value))
    → list_any (λ (other : Value × Value). same_value pair.0 other.0) rest ≡ false
    → AllByRecursion (λ (later : Value × Value). same_value pair.0 later.0 ≡ false) rest
to_no_other pair [] none = tt
to_no_other pair (other ∷ rest) none =
    let parts = or_parts (same_value pair.0 other.0)
    (list_any (λ (some : Value × Value). same_value pair.0 some.0) rest) none in
    (parts.0, to_no_other pair rest parts.1)

from_no_other : (pair : Value × Value) (rest : List (Value × Value))
    → AllByRecursion (λ (later : Value × Value). same_value pair.0 later.0 ≡ false) rest
    → list_any (λ (other : Value × Value). same_value pair.0 other.0) rest ≡ false
from_no_other pair [] all = refl
from_no_other pair (other ∷ rest) all = or_from (same_value pair.0 other.0)
    (list_any (λ (some : Value × Value). same_value pair.0 some.0) rest) all.0 (from_no_other pair rest all.1)

tells_distinct : (pairs : List (Value × Value)) → Tells (keys_differ pairs) (AreDistinct same_value pairs)
tells_distinct [] = record { to = λ _. tt; from = λ _. refl }
tells_distinct (pair ∷ rest) =
    let some = list_any (λ (other : Value × Value). same_value pair.0 other.0) rest in
    let more = tells_distinct rest in
    record {
      to = λ holds. let both = and_parts (not some) (keys_differ rest) holds in
          (to_no_other pair rest (not_true some both.0), more.to both.1);
      from = λ distinct. and_from (not some) (keys_differ rest)
          (not_false some (from_no_other pair rest distinct.0)) (more.from distinct.1);
    }

tells_not_nil : (value : Value) → Tells (not (is_nil value)) (value ≢ Nil)
tells_not_nil Nil = record { to = λ holds. absurd (false≢true holds); from = λ apart. absurd (apart refl) }
tells_not_nil False = record { to = λ _ same. cc; from = λ _. refl }
tells_not_nil True = record { to = λ _ same. cc; from = λ _. refl }
tells_not_nil (Int number) = record { to = λ _ same. cc; from = λ _. refl }
tells_not_nil (Char code) = record { to = λ _ same. cc; from = λ _. refl }
tells_not_nil (Sym name) = record { to = λ _ same. cc; from = λ _. refl }
tells_not_nil (Ref oid) = record { to = λ _ same. cc; from = λ _. refl }
tells_not_nil (Block block) = record { to = λ _ same. cc; from = λ _. refl }

abbrev key_not_nil : Value × Value → Bool
key_not_nil pair = not (is_nil pair.0)

tells_dictionary : (pairs : List (Value × Value)) → Tells (is_dictionary_body pairs) (IsDictionary pairs)
tells_dictionary pairs =
    let count = tells_lt (length pairs) (2 ^ 32) in
    let each = tells_all is_storable_pair IsStorablePair tells_pair pairs in
    let distinct = tells_distinct pairs in
    let named = tells_all key_not_nil (λ pair. pair.0 ≢ Nil) (λ pair. tells_not_nil pair.0) pairs in
    record {
      to = λ holds.
          let first = and_parts _ _ holds in
          let second = and_parts _ _ first.1 in
          let third = and_parts _ _ second.1 in
          record {
            count = count.to first.0;
            each = each.to second.0;
            distinct = distinct.to third.0;
            no_nil = named.to third.1;
          };
      from = λ is. and_from _ _ (count.from is.count) (and_from _ _ (each.from is.each)
          (and_from _ _ (distinct.from is.distinct) (named.from is.no_nil)));
    }

-- ---- classes

tells_code : (code : MethodCode) → Tells (is_code code) (IsCode code)
tells_code (Source source) =
    let each = tells_all is_plain_byte IsPlainByte (λ byte. tells_lt byte 128) source in
    let count = tells_lt (length source) (2 ^ 32) in
    record {
      to = λ holds. let both = and_parts (nat_lt (length source) (2 ^ 32)) (list_all is_plain_byte source) holds in
          record { count = count.to both.0; bytes = each.to both.1 };
      from = λ is. and_from (nat_lt (length source) (2 ^ 32)) (list_all is_plain_byte source) (count.from is.count)
          (each.from is.bytes);
    }
tells_code (Primitive number) = tells_lt number (2 ^ 8)

tells_method : (method : Method) → Tells (is_method method) (IsMethod method)
tells_method method = tells_both (is_text method.selector) (is_code method.code) (IsText method.selector)
    (IsCode method.code) (tells_text method.selector) (tells_code method.code)

tells_methods : (methods : List Method) → Tells (are_methods methods) (AreMethods methods)
tells_methods methods =
    let count = tells_lt (length methods) (2 ^ 16) in
    let each = tells_all is_method IsMethod tells_method methods in
    let ascend = tells_texts_ascend (map (λ (method : Method). method.selector) methods) in
    record {
      to = λ holds.
          let first = and_parts _ _ holds in
          let second = and_parts _ _ first.1 in
          record { count = count.to first.0; each = each.to second.0; ascend = ascend.to second.1 };
      from = λ are. and_from _ _ (count.from are.count) (and_from _ _ (each.from are.each) (ascend.from are.ascend));
    }

tells_superclass : (superclass : Option ℕ)
    → Tells (is_superclass superclass) (IfSome superclass (λ number. (0 < number) × IsOid number))
tells_superclass None = record { to = λ _. tt; from = λ _. refl }
tells_superclass (Some number) = tells_both (nat_lt 0 number) (nat_lt number (2 ^ 48)) (0 < number) (number < 2 ^ 48)
    (tells_lt 0 number) (tells_lt number (2 ^ 48))

tells_class : (class : ClassBody) → Tells (is_class_body class) (IsClass class)
tells_class class =
    let name = tells_text class.name in
    let superclass = tells_superclass class.superclass in
    let count = tells_lt (length class.names) (2 ^ 16) in
    let names = tells_all is_text IsText tells_text class.names in
    let methods = tells_methods class.methods in
    let class_methods = tells_methods class.class_methods in
    record {
      to = λ holds.
          let first = and_parts _ _ holds in
          let second = and_parts _ _ first.1 in
          let third = and_parts _ _ second.1 in
          let fourth = and_parts _ _ third.1 in
          let fifth = and_parts _ _ fourth.1 in
          record {
            name = name.to first.0;
            superclass = superclass.to second.0;
            names_count = count.to third.0;
            names = names.to fourth.0;
            methods = methods.to fifth.0;
            class_methods = class_methods.to fifth.1;
          };
      from = λ is. and_from _ _ (name.from is.name) (and_from _ _ (superclass.from is.superclass)
          (and_from _ _ (count.from is.names_count) (and_from _ _ (names.from is.names)
          (and_from _ _ (methods.from is.methods) (class_methods.from is.class_methods)))));
    }

-- ---- segments and users

tells_given : (right : Right) → Tells (is_given right) (right ≢ NoRight)
tells_given NoRight = record { to = λ holds. absurd (false≢true holds); from = λ apart. absurd (apart refl) }
tells_given Read = record { to = λ _ same. cc; from = λ _. refl }
tells_given Write = record { to = λ _ same. cc; from = λ _. refl }

tells_segment : (rights : Rights Text) → Tells (is_segment_body rights) (IsSegment rights)
tells_segment rights =
    let owner = tells_lt rights.owner (2 ^ 48) in
    let count = tells_lt (length rights.groups) (2 ^ 16) in
    let names = tells_all (λ (group : Text × Right). is_text group.0) (λ group. IsText group.0)
    (λ group. tells_text group.0) rights.groups in
    let ascend = tells_texts_ascend (map (λ (group : Text × Right). group.0) rights.groups) in
    let given = tells_all (λ (group : Text × Right). is_given group.1) (λ group. group.1 ≢ NoRight)
    (λ group. tells_given group.1) rights.groups in
    record {
      to = λ holds.
          let first = and_parts _ _ holds in
          let second = and_parts _ _ first.1 in
          let third = and_parts _ _ second.1 in
          let fourth = and_parts _ _ third.1 in
          record {
            owner = owner.to first.0;
            count = count.to second.0;
            names = names.to third.0;
            ascend = ascend.to fourth.0;
            given = given.to fourth.1;
          };
      from = λ is. and_from _ _ (owner.from is.owner) (and_from _ _ (count.from is.count)
          (and_from _ _ (names.from is.names) (and_from _ _ (ascend.from is.ascend) (given.from is.given))));
    }

tells_user : (user : UserBody) → Tells (is_user_body user) (IsUser user)
tells_user user =
    let name = tells_text user.name in
    let count = tells_lt (length user.groups) (2 ^ 16) in
    let groups = tells_all is_text IsText tells_text user.groups in
    let ascend = tells_texts_ascend user.groups in
    let segment = tells_lt user.default_segment (2 ^ 48) in
    let globals = tells_lt user.globals (2 ^ 48) in
    record {
      to = λ holds.
          let first = and_parts _ _ holds in
          let second = and_parts _ _ first.1 in
          let third = and_parts _ _ second.1 in
          let fourth = and_parts _ _ third.1 in
          let fifth = and_parts _ _ fourth.1 in
          record {
            name = name.to first.0;
            count = count.to second.0;
            groups = groups.to third.0;
            ascend = ascend.to fourth.0;
            default_segment = segment.to fifth.0;
            globals = globals.to fifth.1;
          };
      from = λ is. and_from _ _ (name.from is.name) (and_from _ _ (count.from is.count)
          (and_from _ _ (groups.from is.groups) (and_from _ _ (ascend.from is.ascend)
          (and_from _ _ (segment.from is.default_segment) (globals.from is.globals)))));
    }

-- ---- reduced-conflict bodies

tells_occurs : (pair : Value × ℕ) → Tells (occurs pair) ((0 < pair.1) × (pair.1 < 2 ^ 64))
tells_occurs pair = tells_both (nat_lt 0 pair.1) (nat_lt pair.1 (2 ^ 64)) (0 < pair.1) (pair.1 < 2 ^ 64)
    (tells_lt 0 pair.1) (tells_lt pair.1 (2 ^ 64))

tells_items : (pairs : List (Value × ℕ)) → Tells (are_items pairs) (IsItems pairs)
tells_items pairs =
    let count = tells_lt (length pairs) (2 ^ 32) in
    let each = tells_all (λ (pair : Value × ℕ). is_storable pair.0) (λ pair. IsStorable pair.0)
    (λ pair. tells_storable pair.0) pairs in
    let ascend = tells_ascends value_order value_order_total (map (λ (pair : Value × ℕ). pair.0) pairs) in
    let occur = tells_all occurs (λ pair. (0 < pair.1) × (pair.1 < 2 ^ 64)) tells_occurs pairs in
    record {
      to = λ holds.
          let first = and_parts _ _ holds in
          let second = and_parts _ _ first.1 in
          let third = and_parts _ _ second.1 in
          record {
            count = count.to first.0;
            each = each.to second.0;
            ascend = ascend.to third.0;
            occur = occur.to third.1;
          };
      from = λ is. and_from _ _ (count.from is.count) (and_from _ _ (each.from is.each)
          (and_from _ _ (ascend.from is.ascend) (occur.from is.occur)));
    }

tells_key_dictionary : (pairs : List (Value × Value)) → Tells (is_key_dictionary pairs) (IsKeyDictionary pairs)
tells_key_dictionary pairs =
    let count = tells_lt (length pairs) (2 ^ 32) in
    let each = tells_all is_storable_pair IsStorablePair tells_pair pairs in
    let ascend = tells_ascends value_order value_order_total (map (λ (pair : Value × Value). pair.0) pairs) in
    let keys = tells_all (λ (pair : Value × Value). is_key pair.0) (λ pair. IsTrue (is_key pair.0))
    (λ pair. tells_itself (is_key pair.0)) pairs in
    record {
      to = λ holds.
          let first = and_parts _ _ holds in
          let second = and_parts _ _ first.1 in
          let third = and_parts _ _ second.1 in
          record {
            count = count.to first.0;
            each = each.to second.0;
            ascend = ascend.to third.0;
            keys = keys.to third.1;
          };
      from = λ is. and_from _ _ (count.from is.count) (and_from _ _ (each.from is.each)
          (and_from _ _ (ascend.from is.ascend) (keys.from is.keys)));
    }

tells_bytes : (bytes : List ℕ) → Tells (nat_lt (length bytes) (2 ^ 32) && list_all is_plain_byte bytes)
    ((length bytes < 2 ^ 32) × All IsPlainByte bytes)
tells_bytes bytes = tells_both (nat_lt (length bytes) (2 ^ 32)) (list_all is_plain_byte bytes)
    (length bytes < 2 ^ 32) (All IsPlainByte bytes) (tells_lt (length bytes) (2 ^ 32))
    (tells_all is_plain_byte IsPlainByte (λ byte. tells_lt byte 128) bytes)

pub tells_spelled : (body : Body) → Tells (is_spelled body) (IsSpelledBody body)
unfolding is_spelled
tells_spelled (Plain values) = tells_values values
tells_spelled (Bytes bytes) = tells_bytes bytes
tells_spelled (Dict pairs) = tells_dictionary pairs
tells_spelled (Class class) = tells_class class
tells_spelled (Segment rights) = tells_segment rights
tells_spelled (User user) = tells_user user
tells_spelled (Counter counter) = tells_itself (is_small_integer counter.value)
tells_spelled (Bag pairs) = tells_items pairs
tells_spelled (RcDict pairs) = tells_key_dictionary pairs
tells_spelled (Queue queue) = tells_both (nat_lt queue.removed (2 ^ 64)) (are_storable queue.items)
    (queue.removed < 2 ^ 64) (AreStorable queue.items) (tells_lt queue.removed (2 ^ 64)) (tells_values queue.items)

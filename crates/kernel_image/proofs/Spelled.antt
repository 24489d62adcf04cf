-- A test of the bodies that the kernel has: those that pass it have a spelling.
use Rattle.std.proofs.Common.{◌≡◌, ◌≢◌, ◌<◌, ◌^◌, ℕ, Bool, true, false, not, ◌&&◌, length, List, [], ◌∷◌, map, Option, Some, None, All, refl, sym, subst, arith}
use Rattle.std.specs.Prelude.{nat_lt}
use Rattle.std.specs.List.{list_all, AllByRecursion}
use Rattle.std.specs.List.Sorted.{IsStrictlySortedBy}
use Rattle.std.specs.Option.{IfSome}
use Rattle.std.specs.Ordering.{nat_cmp, is_lt}
use Rattle.std.specs.declared.cmp.Ordering.{Ordering}
use Rattle.std.specs.declared.cmp.Ordering.TheVariants.{Less, Equal, Greater}
use Rattle.std.specs.Cmp.Lexicographic.{slice_cmp}
use Rattle.std.proofs.lemmas.Bool.{false≢true, ltb-true}
use Rattle.std.proofs.lemmas.List.Sums.{AllPass-from_list_all}
use Rattle.std.proofs.lemmas.List.Elements.{All-nil}
use Rattle.gem_object.specs.texts.Bytes.{Bytes as Text}
use Rattle.gem_object.specs.insertion_map.Pairs.{AreDistinct}
use Rattle.gem_object.specs.seg_rights.declared.right.Right.TheVariants.{None as NoRight}
use Rattle.gem_object.specs.seg_rights.declared.rights.Rights.{Rights}
use Rattle.gem_object.specs.Order.{same_value}
use Rattle.gem_object.specs.Spelling.{IsPlainByte, IsText, IsStorable, IsStorablePair, IsDictionary, IsCode, IsMethod, AreMethods, IsClass, IsSegment, IsUser, IsSpelledBody, IsSpelled}
use Rattle.gem_object.specs.declared.value.Value.{Value}
use Rattle.gem_object.specs.declared.value.Value.TheVariants.{Nil, False, True, Int, Char, Sym, Ref, Block}
use Rattle.gem_object.specs.declared.body.MethodCode.{MethodCode}
use Rattle.gem_object.specs.declared.body.MethodCode.TheVariants.{Source, Primitive}
use Rattle.gem_object.specs.declared.body.Method.{Method}
use Rattle.gem_object.specs.declared.body.ClassBody.{ClassBody}
use Rattle.gem_object.specs.declared.body.UserBody.{UserBody}
use Rattle.gem_object.specs.declared.body.Body.{Body}
use Rattle.gem_object.specs.declared.body.Body.TheVariants.{Plain, Bytes, Dict, Class, Segment, User, Counter, Bag, RcDict, Queue}
use Rattle.gem_object.specs.declared.object.Object.{Object}
use Rattle.kernel_image.proofs.Sources.{both}

-- ---- the tests

abbrev plain_byte : ℕ → Bool
plain_byte byte = nat_lt byte 128

abbrev text_test : Text → Bool
text_test text = nat_lt (length text) 1000 && list_all plain_byte text

abbrev name_test : ℕ → Bool
name_test number = nat_lt number 1000

abbrev code_test : MethodCode → Bool
code_test (Source text) = nat_lt (length text) 1000 && list_all plain_byte text
code_test (Primitive number) = nat_lt number 256

abbrev method_test : Method → Bool
method_test method = text_test method.selector && code_test method.code

abbrev below_all : Text → List Text → Bool
below_all text texts = list_all (λ later. is_lt (slice_cmp nat_cmp text later)) texts

abbrev ascend_test : List Text → Bool
ascend_test [] = true
ascend_test (text ∷ texts) = below_all text texts && ascend_test texts

abbrev methods_test : List Method → Bool
methods_test methods = nat_lt (length methods) 1000
    && (list_all method_test methods && ascend_test (map (λ (m : Method). m.selector) methods))

abbrev is_nil : {X : Type 0} → List X → Bool
is_nil [] = true
is_nil (x ∷ xs) = false

abbrev superclass_test : Option ℕ → Bool
superclass_test None = true
superclass_test (Some number) = nat_lt 0 number && name_test number

abbrev class_test : ClassBody → Bool
class_test class = text_test class.name && (superclass_test class.superclass && (is_nil class.names
    && (methods_test class.methods && methods_test class.class_methods)))

abbrev value_test : Value → Bool
value_test (Sym text) = text_test text
value_test (Ref number) = name_test number
value_test _ = false

abbrev pair_test : Value × Value → Bool
pair_test pair = value_test pair.0 && value_test pair.1

abbrev differs : Value → Value × Value → Bool
differs key pair = not (same_value key pair.0)

abbrev distinct_test : List (Value × Value) → Bool
distinct_test [] = true
distinct_test (pair ∷ pairs) = list_all (differs pair.0) pairs && distinct_test pairs

abbrev pairs_test : List (Value × Value) → Bool
pairs_test pairs = nat_lt (length pairs) 1000 && (list_all pair_test pairs && distinct_test pairs)

abbrev segment_test : Rights Text → Bool
segment_test rights = name_test rights.owner && is_nil rights.groups

abbrev user_test : UserBody → Bool
user_test user = text_test user.name && (is_nil user.groups
    && (name_test user.default_segment && name_test user.globals))

abbrev body_test : Body → Bool
body_test (Plain values) = is_nil values
body_test (Dict pairs) = pairs_test pairs
body_test (Class class) = class_test class
body_test (Segment rights) = segment_test rights
body_test (User user) = user_test user
body_test _ = false

abbrev pub object_test : Object → Bool
object_test object = name_test object.class && (name_test object.segment && body_test object.body)

-- ---- what they tell

all_of : {X : Type 0} (p : X → Bool) (P : X → Type 0) → ((x : X) → p x ≡ true → P x)
    → (xs : List X) → list_all p xs ≡ true → All P xs
all_of p P tells xs passed k d below = tells _ (AllPass-from_list_all p xs passed k d below)

by_recursion : {X : Type 0} (p : X → Bool) (P : X → Type 0) → ((x : X) → p x ≡ true → P x)
    → (xs : List X) → list_all p xs ≡ true → AllByRecursion P xs
by_recursion p P tells [] passed = tt
by_recursion p P tells (x ∷ xs) passed =
    let parts = both (p x) (list_all p xs) passed in
    (tells x parts.0, by_recursion p P tells xs parts.1)

nil_of : {X : Type 0} (xs : List X) → is_nil xs ≡ true → xs ≡ []
nil_of [] passed = refl
nil_of (x ∷ xs) passed = absurd (false≢true passed)

byte_tells : (byte : ℕ) → plain_byte byte ≡ true → IsPlainByte byte
byte_tells byte passed = ltb-true byte 128 passed

text_tells : (text : Text) → text_test text ≡ true → IsText text
text_tells text passed =
    let parts = both (nat_lt (length text) 1000) (list_all plain_byte text) passed in
    let few : length text < 1000 = ltb-true (length text) 1000 parts.0 in
    record { short = omega (arith, few); bytes = all_of plain_byte IsPlainByte byte_tells text parts.1 }

name_tells : (number : ℕ) → name_test number ≡ true → number < 2 ^ 48
name_tells number passed =
    let few : number < 1000 = ltb-true number 1000 passed in
    omega (arith, few)

code_tells : (code : MethodCode) → code_test code ≡ true → IsCode code
code_tells (Source text) passed =
    let parts = both (nat_lt (length text) 1000) (list_all plain_byte text) passed in
    let few : length text < 1000 = ltb-true (length text) 1000 parts.0 in
    record { count = omega (arith, few); bytes = all_of plain_byte IsPlainByte byte_tells text parts.1 }
code_tells (Primitive number) passed =
    let few : number < 256 = ltb-true number 256 passed in
    omega (arith, few)

method_tells : (method : Method) → method_test method ≡ true → IsMethod method
method_tells method passed =
    let parts = both (text_test method.selector) (code_test method.code) passed in
    (text_tells method.selector parts.0, code_tells method.code parts.1)

less_of : (order : Ordering) → is_lt order ≡ true → order ≡ Less
less_of Less passed = refl
less_of Equal passed = absurd (false≢true passed)
less_of Greater passed = absurd (false≢true passed)

ascend_tells : (texts : List Text) → ascend_test texts ≡ true
    → IsStrictlySortedBy (slice_cmp nat_cmp) texts
unfolding IsStrictlySortedBy
ascend_tells [] passed = tt
ascend_tells (text ∷ texts) passed =
    let parts = both (below_all text texts) (ascend_test texts) passed in (
      by_recursion (λ later. is_lt (slice_cmp nat_cmp text later)) (λ later. slice_cmp nat_cmp text later ≡ Less)
          (λ later lt. less_of (slice_cmp nat_cmp text later) lt) texts parts.0,
      ascend_tells texts parts.1,
    )

methods_tell : (methods : List Method) → methods_test methods ≡ true → AreMethods methods
methods_tell methods passed =
    let selectors = map (λ (m : Method). m.selector) methods in
    let parts = both (nat_lt (length methods) 1000) (list_all method_test methods && ascend_test selectors) passed in
    let more = both (list_all method_test methods) (ascend_test selectors) parts.1 in
    let few : length methods < 1000 = ltb-true (length methods) 1000 parts.0 in
    record {
      count = omega (arith, few);
      each = all_of method_test IsMethod method_tells methods more.0;
      ascend = ascend_tells selectors more.1;
    }

superclass_tells : (superclass : Option ℕ) → superclass_test superclass ≡ true
    → IfSome superclass (λ number. (0 < number) × (number < 2 ^ 48))
superclass_tells None passed = tt
superclass_tells (Some number) passed =
    let parts = both (nat_lt 0 number) (name_test number) passed in
    (ltb-true 0 number parts.0, name_tells number parts.1)

class_tells : (class : ClassBody) → class_test class ≡ true → IsClass class
class_tells class passed =
    let a = both (text_test class.name) _ passed in
    let b = both (superclass_test class.superclass) _ a.1 in
    let c = both (is_nil class.names) _ b.1 in
    let d = both (methods_test class.methods) (methods_test class.class_methods) c.1 in
    let none : class.names ≡ [] = nil_of class.names c.0 in
    record {
      name = text_tells class.name a.0;
      superclass = superclass_tells class.superclass b.0;
      names_count = subst (λ (names : List Text). length names < 2 ^ 16) (sym none) (omega arith);
      names = subst (All IsText) (sym none) (All-nil IsText);
      methods = methods_tell class.methods d.0;
      class_methods = methods_tell class.class_methods d.1;
    }

value_tells : (value : Value) → value_test value ≡ true → IsStorable value × (value ≢ Nil)
value_tells Nil passed = absurd (false≢true passed)
value_tells False passed = absurd (false≢true passed)
value_tells True passed = absurd (false≢true passed)
value_tells (Int number) passed = absurd (false≢true passed)
value_tells (Char code) passed = absurd (false≢true passed)
value_tells (Sym text) passed = (text_tells text passed, λ is. cc)
value_tells (Ref number) passed = (name_tells number passed, λ is. cc)
value_tells (Block block) passed = absurd (false≢true passed)

pair_tells : (pair : Value × Value) → pair_test pair ≡ true → IsStorablePair pair × (pair.0 ≢ Nil)
pair_tells pair passed =
    let parts = both (value_test pair.0) (value_test pair.1) passed in
    let key = value_tells pair.0 parts.0 in
    ((key.0, (value_tells pair.1 parts.1).0), key.1)

false_of : (b : Bool) → not b ≡ true → b ≡ false
false_of true passed = absurd (false≢true passed)
false_of false passed = refl

pub distinct_tells : (pairs : List (Value × Value)) → distinct_test pairs ≡ true
    → AreDistinct same_value pairs
distinct_tells [] passed = tt
distinct_tells (pair ∷ pairs) passed =
    let parts = both (list_all (differs pair.0) pairs) (distinct_test pairs) passed in (
      by_recursion (differs pair.0) (λ later. same_value pair.0 later.0 ≡ false)
          (λ later other. false_of (same_value pair.0 later.0) other) pairs parts.0,
      distinct_tells pairs parts.1,
    )

pairs_tell : (pairs : List (Value × Value)) → pairs_test pairs ≡ true → IsDictionary pairs
pairs_tell pairs passed =
    let a = both (nat_lt (length pairs) 1000) _ passed in
    let b = both (list_all pair_test pairs) (distinct_test pairs) a.1 in
    let few : length pairs < 1000 = ltb-true (length pairs) 1000 a.0 in
    record {
      count = omega (arith, few);
      each = all_of pair_test IsStorablePair (λ pair ok. (pair_tells pair ok).0) pairs b.0;
      distinct = distinct_tells pairs b.1;
      no_nil = all_of pair_test (λ pair. pair.0 ≢ Nil) (λ pair ok. (pair_tells pair ok).1) pairs b.0;
    }

segment_tells : (rights : Rights Text) → segment_test rights ≡ true → IsSegment rights
unfolding IsStrictlySortedBy
segment_tells rights passed =
    let parts = both (name_test rights.owner) (is_nil rights.groups) passed in
    let none = nil_of rights.groups parts.1 in
    record {
      owner = name_tells rights.owner parts.0;
      count = subst (λ groups. length groups < 2 ^ 16) (sym none) (omega arith);
      names = subst (All (λ group. IsText group.0)) (sym none) (All-nil (λ group. IsText group.0));
      ascend = subst (λ groups. IsStrictlySortedBy (slice_cmp nat_cmp) (map (λ group. group.0) groups)) (sym none) tt;
      given = subst (All (λ group. group.1 ≢ NoRight)) (sym none) (All-nil (λ group. group.1 ≢ NoRight));
    }

user_tells : (user : UserBody) → user_test user ≡ true → IsUser user
unfolding IsStrictlySortedBy
user_tells user passed =
    let a = both (text_test user.name) _ passed in
    let b = both (is_nil user.groups) _ a.1 in
    let c = both (name_test user.default_segment) (name_test user.globals) b.1 in
    let none : user.groups ≡ [] = nil_of user.groups b.0 in
    record {
      name = text_tells user.name a.0;
      count = subst (λ (groups : List Text). length groups < 2 ^ 16) (sym none) (omega arith);
      groups = subst (All IsText) (sym none) (All-nil IsText);
      ascend = subst (IsStrictlySortedBy (slice_cmp nat_cmp)) (sym none) tt;
      default_segment = name_tells user.default_segment c.0;
      globals = name_tells user.globals c.1;
    }

body_tells : (body : Body) → body_test body ≡ true → IsSpelledBody body
body_tells (Plain values) passed =
    let none = nil_of values passed in
    record {
      count = subst (λ (items : List Value). length items < 2 ^ 32) (sym none) (omega arith);
      each = subst (All IsStorable) (sym none) (All-nil IsStorable);
    }
body_tells (Bytes bytes) passed = absurd (false≢true passed)
body_tells (Dict pairs) passed = pairs_tell pairs passed
body_tells (Class class) passed = class_tells class passed
body_tells (Segment rights) passed = segment_tells rights passed
body_tells (User user) passed = user_tells user passed
body_tells (Counter counter) passed = absurd (false≢true passed)
body_tells (Bag pairs) passed = absurd (false≢true passed)
body_tells (RcDict pairs) passed = absurd (false≢true passed)
body_tells (Queue queue) passed = absurd (false≢true passed)

pub object_tells : (object : Object) → object_test object ≡ true → IsSpelled object
object_tells object passed =
    let a = both (name_test object.class) _ passed in
    let b = both (name_test object.segment) (body_test object.body) a.1 in
    record {
      class_name = name_tells object.class a.0;
      segment_name = name_tells object.segment b.0;
      body = body_tells object.body b.1;
    }

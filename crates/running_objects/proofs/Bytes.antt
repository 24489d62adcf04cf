-- How many bytes the fields of a body have at most that can be stored: far fewer than 2^60.
use Rattle.std.proofs.Common.{◌≡◌, ℕ, ◌*◌, ◌^◌, ◌<◌, ◌≤◌, Bool, true, false, nat_lt, nat_le, List, [], ◌∷◌, length, Some, arith}
use Rattle.std.specs.List.{list_all, sum_by}
use Rattle.std.proofs.lemmas.Bool.{false≢true, and_parts, ltb-true, leb-true}
use Rattle.std.proofs.lemmas.List.Sums.{sum_by-cons}
use Rattle.gem_object.specs.texts.Bytes.{Bytes as Text}
use Rattle.gem_object.specs.Sizes.{text_size, value_size, pair_size, occurrences_size, grant_size, method_size, methods_size, names_size, fields_size}
use Rattle.gem_object.specs.declared.value.Value.{Value}
use Rattle.gem_object.specs.declared.value.Value.TheVariants.{Nil, False, True, Int, Char, Sym, Ref, Block}
use Rattle.gem_object.specs.declared.body.MethodCode.{MethodCode}
use Rattle.gem_object.specs.declared.body.MethodCode.TheVariants.{Source, Primitive}
use Rattle.gem_object.specs.declared.body.Method.{Method}
use Rattle.gem_object.specs.declared.body.Body.{Body}
use Rattle.gem_object.specs.declared.body.Body.TheVariants.{Plain, Bytes, Dict, Class, Segment, User, Counter, Bag, RcDict, Queue}
use Rattle.object_programs.specs.gem_image.Image.{Contents}
use Rattle.object_programs.specs.Spelled.{is_plain_byte, is_oid, is_text, is_superclass, is_storable, are_storable, is_storable_pair, is_code, is_method, are_methods, is_spelled}
use Rattle.running_objects.specs.Seen.{Seen, object_at, IsSoundState}
use Rattle.running_objects.proofs.Edits.{old_rest}

-- the sum over a list of items each of which passes a test that bounds it
sum_small : {X : Type 0} (f : X → ℕ) (test : X → Bool) (most : ℕ) → ((x : X) → test x ≡ true → f x ≤ most)
    → (xs : List X) → list_all test xs ≡ true → sum_by f xs ≤ length xs * most
sum_small f test most each [] all = omega arith
sum_small f test most each (x ∷ xs) all =
    let both = and_parts (test x) (list_all test xs) all in
    omega (arith, sum_by-cons f x xs, each x both.0, sum_small f test most each xs both.1)

text_small : (text : Text) → is_text text ≡ true → text_size text ≤ 1002
text_small text is =
    let both = and_parts (nat_le (length text) 1000) (list_all is_plain_byte text) is in
    omega (arith, leb-true (length text) 1000 both.0)

value_small : (value : Value) → is_storable value ≡ true → value_size value ≤ 1003
value_small Nil is = omega arith
value_small False is = omega arith
value_small True is = omega arith
value_small (Int number) is = omega arith
value_small (Char code) is = omega arith
value_small (Sym name) is = omega (arith, text_small name is)
value_small (Ref oid) is = omega arith
value_small (Block block) is = absurd (false≢true is)

pair_small : (pair : Value × Value) → is_storable_pair pair ≡ true → pair_size pair ≤ 2006
pair_small pair is =
    let both = and_parts (is_storable pair.0) (is_storable pair.1) is in
    omega (arith, value_small pair.0 both.0, value_small pair.1 both.1)

occurrences_small : (pair : Value × ℕ) → is_storable pair.0 ≡ true → occurrences_size pair ≤ 1011
occurrences_small pair is = omega (arith, value_small pair.0 is)

method_by : (selector : Text) (code : MethodCode) → is_text selector ≡ true → is_code code ≡ true
    → method_size (record { selector = selector; code = code }) ≤ 2 ^ 33
method_by selector (Source source) named is =
    let both = and_parts (nat_lt (length source) (2 ^ 32)) (list_all is_plain_byte source) is in
    omega (arith, text_small selector named, ltb-true (length source) (2 ^ 32) both.0)
method_by selector (Primitive number) named is = omega (arith, text_small selector named)

method_small : (method : Method) → is_method method ≡ true → method_size method ≤ 2 ^ 33
method_small method is =
    let both = and_parts (is_text method.selector) (is_code method.code) is in
    method_by method.selector method.code both.0 both.1

methods_small : (methods : List Method) → are_methods methods ≡ true → methods_size methods < 2 ^ 50
methods_small methods is =
    let few = and_parts (nat_lt (length methods) (2 ^ 16)) _ is in
    let each = and_parts (list_all is_method methods) _ few.1 in
    omega (
      arith,
      ltb-true (length methods) (2 ^ 16) few.0,
      sum_small method_size is_method (2 ^ 33) method_small methods each.0,
    )

names_small : (names : List Text) → nat_lt (length names) (2 ^ 16) ≡ true → list_all is_text names ≡ true
    → names_size names < 2 ^ 27
names_small names few each = omega (
  arith,
  ltb-true (length names) (2 ^ 16) few,
  sum_small text_size is_text 1002 text_small names each,
)

values_small : (values : List Value) → are_storable values ≡ true → sum_by value_size values < 2 ^ 43
values_small values is =
    let both = and_parts (nat_lt (length values) (2 ^ 32)) (list_all is_storable values) is in
    omega (
      arith,
      ltb-true (length values) (2 ^ 32) both.0,
      sum_small value_size is_storable 1003 value_small values both.1,
    )

pairs_small : (pairs : List (Value × Value)) → nat_lt (length pairs) (2 ^ 32) ≡ true → list_all is_storable_pair pairs ≡ true
    → sum_by pair_size pairs < 2 ^ 44
pairs_small pairs few each = omega (
  arith,
  ltb-true (length pairs) (2 ^ 32) few,
  sum_small pair_size is_storable_pair 2006 pair_small pairs each,
)

-- what can be stored has fewer than 2^60 bytes
pub fields_small : (body : Body) → is_spelled body ≡ true → fields_size body < 2 ^ 60
unfolding is_spelled
fields_small (Plain values) is = omega (arith, values_small values is)
fields_small (Bytes bytes) is =
    let both = and_parts (nat_lt (length bytes) (2 ^ 32)) (list_all is_plain_byte bytes) is in
    omega (arith, ltb-true (length bytes) (2 ^ 32) both.0)
fields_small (Dict pairs) is =
    let few = and_parts (nat_lt (length pairs) (2 ^ 32)) _ is in
    omega (arith, pairs_small pairs few.0 (and_parts (list_all is_storable_pair pairs) _ few.1).0)
fields_small (Class class) is =
    let named = and_parts (is_text class.name) _ is in
    let above = and_parts (is_superclass class.superclass) _ named.1 in
    let few = and_parts (nat_lt (length class.names) (2 ^ 16)) _ above.1 in
    let names = and_parts (list_all is_text class.names) _ few.1 in
    let methods = and_parts (are_methods class.methods) (are_methods class.class_methods) names.1 in
    omega (
      arith,
      text_small class.name named.0,
      names_small class.names few.0 names.0,
      methods_small class.methods methods.0,
      methods_small class.class_methods methods.1,
    )
fields_small (Segment rights) is =
    let owned = and_parts (is_oid rights.owner) _ is in
    let few = and_parts (nat_lt (length rights.groups) (2 ^ 16)) _ owned.1 in
    let each = and_parts (list_all (λ group. is_text group.0) rights.groups) _ few.1 in
    omega (
      arith,
      ltb-true (length rights.groups) (2 ^ 16) few.0,
      sum_small grant_size (λ grant. is_text grant.0) 1003 (λ grant is. omega (arith, text_small grant.0 is)) rights.groups each.0,
    )
fields_small (User user) is =
    let named = and_parts (is_text user.name) _ is in
    let few = and_parts (nat_lt (length user.groups) (2 ^ 16)) _ named.1 in
    let each = and_parts (list_all is_text user.groups) _ few.1 in
    omega (arith, text_small user.name named.0, names_small user.groups few.0 each.0)
fields_small (Counter counter) is = omega arith
fields_small (Bag pairs) is =
    let few = and_parts (nat_lt (length pairs) (2 ^ 32)) _ is in
    let each = and_parts (list_all (λ pair. is_storable pair.0) pairs) _ few.1 in
    omega (
      arith,
      ltb-true (length pairs) (2 ^ 32) few.0,
      sum_small occurrences_size (λ (pair : Value × ℕ). is_storable pair.0) 1011 occurrences_small pairs each.0,
    )
fields_small (RcDict pairs) is =
    let few = and_parts (nat_lt (length pairs) (2 ^ 32)) _ is in
    omega (arith, pairs_small pairs few.0 (and_parts (list_all is_storable_pair pairs) _ few.1).0)
fields_small (Queue queue) is =
    let both = and_parts (nat_lt queue.removed (2 ^ 64)) (are_storable queue.items) is in
    omega (arith, values_small queue.items both.1)

-- so has each object that is seen, where all are sound
pub seen_small : (seen : Seen) (name : ℕ) (object : Contents) → IsSoundState seen → object_at name seen ≡ Some object
    → fields_size object.body < 2 ^ 60
seen_small seen name object sound there =
    fields_small object.body (old_rest seen.setting seen.world name object sound there).1.1

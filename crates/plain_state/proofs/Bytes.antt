-- How many bytes the fields of a body take that can be stored: fewer than 2^60.
use Rattle.std.proofs.Common.{◌≡◌, ℕ, ◌<◌, ◌≤◌, ◌^◌, true, List, length, arith}
use Rattle.std.specs.List.{All, sum_by}
use Rattle.std.proofs.lemmas.List.Elements.{All-weaker}
use Rattle.std.proofs.lemmas.List.Sums.{sum_by-le}
use Rattle.gem_object.specs.texts.Bytes.{Bytes as Text}
use Rattle.gem_object.specs.seg_rights.declared.right.Right.{Right}
use Rattle.gem_object.specs.Sizes.{text_size, value_size, pair_size, occurrences_size, grant_size, code_size, method_size, methods_size, names_size, fields_size}
use Rattle.gem_object.specs.Spelling.{IsText, IsStorable, IsStorablePair, IsCode, IsMethod, AreMethods, IsSpelledBody}
use Rattle.gem_object.specs.declared.value.Value.{Value}
use Rattle.gem_object.specs.declared.value.Value.TheVariants as value
use Rattle.gem_object.specs.declared.body.MethodCode.{MethodCode}
use Rattle.gem_object.specs.declared.body.MethodCode.TheVariants.{Source, Primitive}
use Rattle.gem_object.specs.declared.body.Method.{Method}
use Rattle.gem_object.specs.declared.body.Body.{Body}
use Rattle.gem_object.specs.declared.body.Body.TheVariants as body
use Rattle.object_programs.specs.Spelled.{is_spelled}
use Rattle.object_programs.proofs.Spells.{tells_spelled}

text_bytes : (text : Text) → IsText text → text_size text ≤ 1002
text_bytes text is = let short = is.short in omega (arith, short)

value_bytes : (one : Value) → IsStorable one → value_size one ≤ 1003
value_bytes value.Nil is = omega arith
value_bytes value.False is = omega arith
value_bytes value.True is = omega arith
value_bytes (value.Int number) is = omega arith
value_bytes (value.Char code) is = omega arith
value_bytes (value.Sym name) is = let short = text_bytes name is in omega (arith, short)
value_bytes (value.Ref oid) is = omega arith
value_bytes (value.Block block) is = absurd is

pair_bytes : (pair : Value × Value) → IsStorablePair pair → pair_size pair ≤ 2006
pair_bytes pair is =
    let key = value_bytes pair.0 is.0 in
    let value = value_bytes pair.1 is.1 in
    omega (arith, key, value)

item_bytes : (pair : Value × ℕ) → IsStorable pair.0 → occurrences_size pair ≤ 1011
item_bytes pair is = let item = value_bytes pair.0 is in omega (arith, item)

grant_bytes : (grant : Text × Right) → IsText grant.0 → grant_size grant ≤ 1003
grant_bytes grant is = let name = text_bytes grant.0 is in omega (arith, name)

code_bytes : (code : MethodCode) → IsCode code → code_size code ≤ 4294967300
code_bytes (Source source) is = let count = is.count in omega (arith, count)
code_bytes (Primitive number) is = omega arith

method_bytes : (method : Method) → IsMethod method → method_size method ≤ 4294968302
method_bytes method is =
    let selector = text_bytes method.selector is.0 in
    let code = code_bytes method.code is.1 in
    omega (arith, selector, code)

values_bytes : (values : List Value) → length values < 2 ^ 32 → All IsStorable values → sum_by value_size values ≤ 4307852197888
values_bytes values count each =
    let sum = sum_by-le value_size 1003 values (All-weaker IsStorable (λ one. value_size one ≤ 1003) value_bytes values each) in
    omega (arith, sum, count)

pairs_bytes : (pairs : List (Value × Value)) → length pairs < 2 ^ 32 → All IsStorablePair pairs → sum_by pair_size pairs ≤ 8615704395776
pairs_bytes pairs count each =
    let sum = sum_by-le pair_size 2006 pairs (All-weaker IsStorablePair (λ pair. pair_size pair ≤ 2006) pair_bytes pairs each) in
    omega (arith, sum, count)

names_bytes : (names : List Text) → length names < 2 ^ 16 → All IsText names → names_size names ≤ 65667074
names_bytes names count each =
    let sum = sum_by-le text_size 1002 names (All-weaker IsText (λ name. text_size name ≤ 1002) text_bytes names each) in
    omega (arith, sum, count)

methods_bytes : (methods : List Method) → AreMethods methods → methods_size methods ≤ 281475042639874
methods_bytes methods are =
    let count = are.count in
    let sum = sum_by-le method_size 4294968302 methods (All-weaker IsMethod (λ method. method_size method ≤ 4294968302) method_bytes methods are.each) in
    omega (arith, sum, count)

fields_bytes : (one : Body) → IsSpelledBody one → fields_size one < 2 ^ 60
fields_bytes (body.Plain values) is = let sum = values_bytes values is.count is.each in omega (arith, sum)
fields_bytes (body.Bytes bytes) is = let count = is.0 in omega (arith, count)
fields_bytes (body.Dict pairs) is = let sum = pairs_bytes pairs is.count is.each in omega (arith, sum)
fields_bytes (body.Class class) is =
    let name = text_bytes class.name is.name in
    let names = names_bytes class.names is.names_count is.names in
    let methods = methods_bytes class.methods is.methods in
    let others = methods_bytes class.class_methods is.class_methods in
    omega (arith, name, names, methods, others)
fields_bytes (body.Segment rights) is =
    let count = is.count in
    let sum = sum_by-le grant_size 1003 rights.groups
    (All-weaker (λ grant. IsText grant.0) (λ grant. grant_size grant ≤ 1003) grant_bytes rights.groups is.names) in
    omega (arith, sum, count)
fields_bytes (body.User user) is =
    let name = text_bytes user.name is.name in
    let groups = names_bytes user.groups is.count is.groups in
    omega (arith, name, groups)
fields_bytes (body.Counter counter) is = omega arith
fields_bytes (body.Bag pairs) is =
    let count = is.count in
    let sum = sum_by-le occurrences_size 1011 pairs
    (All-weaker (λ pair. IsStorable pair.0) (λ pair. occurrences_size pair ≤ 1011) item_bytes pairs is.each) in
    omega (arith, sum, count)
fields_bytes (body.RcDict pairs) is = let sum = pairs_bytes pairs is.count is.each in omega (arith, sum)
fields_bytes (body.Queue line) is = let sum = values_bytes line.items is.1.count is.1.each in omega (arith, sum)

-- the fields of a body that can be stored
pub spelled_bytes : (one : Body) → is_spelled one ≡ true → fields_size one < 2 ^ 60
spelled_bytes one spelled = fields_bytes one ((tells_spelled one).to spelled)

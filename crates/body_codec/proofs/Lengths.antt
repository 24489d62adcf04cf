-- A spelling is as long as the size says.
use Rattle.std.proofs.Common.{◌≡◌, ℕ, suc, ◌+◌, List, [], ◌∷◌, ◌++◌, Option, Some, None, length, sum_by, refl, sym, ap, ap₂, ◌∙◌, length-append, arith}
use Rattle.std.specs.List.{flat_map}
use Rattle.std.proofs.lemmas.List.Sums.{sum_by-cons}
use Rattle.gem_object.specs.texts.Bytes.{Bytes as Text}
use Rattle.gem_object.specs.seg_rights.declared.right.Right.{Right}
use Rattle.gem_object.specs.seg_rights.declared.rights.Rights.{Rights}
use Rattle.gem_object.specs.seg_rights.Right.{rank_of}
use Rattle.gem_object.specs.rc_queue.Contents.{Contents}
use Rattle.gem_object.specs.Kinds.{kind_number}
use Rattle.gem_object.specs.Sizes.{text_size, value_size, pair_size, occurrences_size, grant_size, code_size, method_size, names_size, methods_size, class_size, user_size, fields_size, object_size}
use Rattle.gem_object.specs.declared.value.Value.{Value}
use Rattle.gem_object.specs.declared.value.Value.TheVariants.{Nil, False, True, Int, Char, Sym, Ref, Block}
use Rattle.gem_object.specs.declared.body.MethodCode.{MethodCode}
use Rattle.gem_object.specs.declared.body.MethodCode.TheVariants.{Source, Primitive}
use Rattle.gem_object.specs.declared.body.Method.{Method}
use Rattle.gem_object.specs.declared.body.ClassBody.{ClassBody}
use Rattle.gem_object.specs.declared.body.UserBody.{UserBody}
use Rattle.gem_object.specs.declared.body.Body.{Body}
use Rattle.gem_object.specs.declared.body.Body.TheVariants.{Plain, Bytes, Dict, Class, Segment, User, Counter, Bag, RcDict, Queue}
use Rattle.gem_object.specs.declared.object.Object.{Object}
use Rattle.gem_record.specs.Effects.{changed_size, effect_size}
use Rattle.gem_record.specs.declared.effect.Effect.{Effect}
use Rattle.body_codec.specs.Spelled.{two_bytes, four_bytes, eight_bytes, spelled_text, spelled_value, spelled_pair, spelled_occurrences, spelled_grant, spelled_code, spelled_method, short_list, long_list, spelled_superclass, spelled_members, spelled_class, spelled_segment, spelled_user, spelled_queue, spelled_fields, spelled_body, spelled_object, spelled_changed, spelled_effect}

pub two_long : (n : ℕ) → length (two_bytes n) ≡ 2
unfolding two_bytes
two_long n = refl

pub four_long : (n : ℕ) → length (four_bytes n) ≡ 4
unfolding four_bytes
four_long n = refl

pub eight_long : (n : ℕ) → length (eight_bytes n) ≡ 8
unfolding eight_bytes
eight_long n = refl

-- two parts, one behind the other
both : (xs ys : List ℕ) (m n : ℕ) → length xs ≡ m → length ys ≡ n → length (xs ++ ys) ≡ m + n
both xs ys m n left right = length-append xs ys ∙ ap₂ (λ (a b : ℕ). a + b) left right

module _ {X : Type 0} (spelled : X → List ℕ) (size : X → ℕ)
    (each : (x : X) → length (spelled x) ≡ size x) where
  all_long : (xs : List X) → length (flat_map spelled xs) ≡ sum_by size xs
  all_long [] = refl
  all_long (x ∷ xs) = both (spelled x) (flat_map spelled xs) _ _ (each x) (all_long xs)
      ∙ sym (sum_by-cons size x xs)

  short_long : (xs : List X) → length (short_list spelled xs) ≡ 2 + sum_by size xs
  short_long xs = both (two_bytes (length xs)) (flat_map spelled xs) _ _
      (two_long (length xs)) (all_long xs)

  long_long : (xs : List X) → length (long_list spelled xs) ≡ 4 + sum_by size xs
  long_long xs = both (four_bytes (length xs)) (flat_map spelled xs) _ _
      (four_long (length xs)) (all_long xs)

text_long : (text : Text) → length (spelled_text text) ≡ text_size text
text_long text = both (two_bytes (length text)) text _ _ (two_long (length text)) refl

value_long : (value : Value) → length (spelled_value value) ≡ value_size value
value_long Nil = refl
value_long False = refl
value_long True = refl
value_long (Int number) = ap suc (eight_long _)
value_long (Char code) = refl
value_long (Sym name) = omega (arith, text_long name)
value_long (Ref oid) = ap suc (eight_long oid)
value_long (Block block) = refl

pair_long : (pair : Value × Value) → length (spelled_pair pair) ≡ pair_size pair
pair_long pair = both (spelled_value pair.0) (spelled_value pair.1) _ _
    (value_long pair.0) (value_long pair.1)

occurrences_long : (pair : Value × ℕ)
    → length (spelled_occurrences pair) ≡ occurrences_size pair
occurrences_long pair = both (spelled_value pair.0) (eight_bytes pair.1) _ _
    (value_long pair.0) (eight_long pair.1)

grant_long : (grant : Text × Right) → length (spelled_grant grant) ≡ grant_size grant
grant_long grant = both (spelled_text grant.0) _ _ 1 (text_long grant.0) refl

code_long : (code : MethodCode) → length (spelled_code code) ≡ code_size code
code_long (Source source) =
    let rest = both (four_bytes (length source)) source 4 (length source) (four_long (length source)) refl in
    omega (arith, rest)
code_long (Primitive number) = refl

method_long : (method : Method) → length (spelled_method method) ≡ method_size method
method_long method = both (spelled_text method.selector) (spelled_code method.code) _ _
    (text_long method.selector) (code_long method.code)

superclass_long : (superclass : Option ℕ) → length (spelled_superclass superclass) ≡ 8
superclass_long None = eight_long 0
superclass_long (Some oid) = eight_long oid

members_long : (c : ClassBody) → length (spelled_members c)
    ≡ names_size c.names + (methods_size c.methods + methods_size c.class_methods)
members_long c =
    let methods = short_long spelled_method method_size method_long c.methods in
    let own = short_long spelled_method method_size method_long c.class_methods in
    both (short_list spelled_text c.names) _ _ _ (short_long spelled_text text_size text_long c.names)
    (both (short_list spelled_method c.methods) (short_list spelled_method c.class_methods) _ _ methods own)

class_long : (c : ClassBody) → length (spelled_class c) ≡ class_size c
class_long c =
    let kind : length (kind_number c.kind ∷ spelled_members c) ≡ suc (length (spelled_members c)) = refl in
    let ends = both (spelled_superclass c.superclass) (kind_number c.kind ∷ spelled_members c) _ _
    (superclass_long c.superclass) kind in
    let whole = both (spelled_text c.name) (spelled_superclass c.superclass ++ (kind_number c.kind ∷ spelled_members c)) _ _
    (text_long c.name) ends in
    omega (arith, whole, members_long c)

segment_long : (rights : Rights Text) → length (spelled_segment rights) ≡ fields_size (Segment rights)
segment_long rights =
    let groups = short_long spelled_grant grant_size grant_long rights.groups in
    let world = both (short_list spelled_grant rights.groups) (rank_of rights.world_right ∷ []) _ 1 groups refl in
    let whole = both (eight_bytes rights.owner) (rank_of rights.owner_right
    ∷ (short_list spelled_grant rights.groups ++ (rank_of rights.world_right ∷ []))) _ _ (eight_long rights.owner) refl in
    omega (arith, whole, world)

user_long : (user : UserBody) → length (spelled_user user) ≡ user_size user
user_long user =
    let ends = both (eight_bytes user.default_segment) (eight_bytes user.globals) _ _
    (eight_long user.default_segment) (eight_long user.globals) in
    let groups = both (short_list spelled_text user.groups) _ _ _
    (short_long spelled_text text_size text_long user.groups) ends in
    let whole = both (spelled_text user.name) _ _ _ (text_long user.name) groups in
    omega (arith, whole)

queue_long : (queue : Contents Value) → length (spelled_queue queue) ≡ fields_size (Queue queue)
queue_long queue =
    let whole = both (eight_bytes queue.removed) (long_list spelled_value queue.items) _ _ (eight_long queue.removed)
    (long_long spelled_value value_size value_long queue.items) in
    omega (arith, whole)

fields_long : (body : Body) → length (spelled_fields body) ≡ fields_size body
fields_long (Plain values) = long_long spelled_value value_size value_long values
fields_long (Bytes bytes) = both (four_bytes (length bytes)) bytes _ _ (four_long (length bytes)) refl
fields_long (Dict pairs) = long_long spelled_pair pair_size pair_long pairs
fields_long (Class c) = class_long c
fields_long (Segment rights) = segment_long rights
fields_long (User user) = user_long user
fields_long (Counter counter) = eight_long _
fields_long (Bag pairs) = long_long spelled_occurrences occurrences_size occurrences_long pairs
fields_long (RcDict pairs) = long_long spelled_pair pair_size pair_long pairs
fields_long (Queue queue) = queue_long queue

pub object_long : (object : Object) → length (spelled_object object) ≡ object_size object
object_long object =
    let body : length (spelled_body object.body) ≡ suc (length (spelled_fields object.body)) = refl in
    let ends = both (eight_bytes object.segment) (spelled_body object.body) _ _ (eight_long object.segment) body in
    let whole = both (eight_bytes object.class) _ _ _ (eight_long object.class) ends in
    omega (arith, whole, fields_long object.body)

changed_long : (changed : ℕ × Object) → length (spelled_changed changed) ≡ changed_size changed
changed_long changed = both _ _ _ _ (eight_long changed.0) (object_long changed.1)

pub effect_long : (effect : Effect) → length (spelled_effect effect) ≡ effect_size effect
effect_long effect = long_long spelled_changed changed_size changed_long effect.objects

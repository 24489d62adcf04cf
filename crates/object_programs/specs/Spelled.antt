-- Which bodies can be stored, as tests: a body passes its test exactly where it has a spelling.
use Rattle.std.specs.Prelude.{ℕ, ◌^◌, Bool, true, false, ◌&&◌, not, nat_lt, nat_le, length, List, [], ◌∷◌, map, Option, None, Some}
use Rattle.std.specs.List.{list_all, list_any}
use Rattle.std.specs.Ordering.{nat_cmp, is_lt}
use Rattle.std.specs.declared.cmp.Ordering.{Ordering}
use Rattle.std.specs.Cmp.Lexicographic.{slice_cmp}
use Rattle.gem_object.specs.texts.Bytes.{Bytes as Text}
use Rattle.gem_object.specs.texts.SmallInteger.{is_small_integer}
use Rattle.gem_object.specs.texts.declared.limits.TheConstants.{SYMBOL_LIMIT}
use Rattle.gem_object.specs.seg_rights.declared.right.Right.{Right}
use Rattle.gem_object.specs.seg_rights.declared.right.Right.TheVariants.{None as NoRight}
use Rattle.gem_object.specs.seg_rights.declared.rights.Rights.{Rights}
use Rattle.gem_object.specs.Order.{value_order, same_value}
use Rattle.gem_object.specs.Spelling.{is_key}
use Rattle.gem_object.specs.declared.value.Value.{Value}
use Rattle.gem_object.specs.declared.value.Value.TheVariants.{Nil, False, True, Int, Char, Sym, Ref, Block}
use Rattle.gem_object.specs.declared.body.MethodCode.{MethodCode}
use Rattle.gem_object.specs.declared.body.MethodCode.TheVariants.{Source, Primitive}
use Rattle.gem_object.specs.declared.body.Method.{Method}
use Rattle.gem_object.specs.declared.body.ClassBody.{ClassBody}
use Rattle.gem_object.specs.declared.body.UserBody.{UserBody}
use Rattle.gem_object.specs.declared.body.Body.{Body}
use Rattle.gem_object.specs.declared.body.Body.TheVariants.{Plain, Bytes, Dict, Class, Segment, User, Counter, Bag, RcDict, Queue}

-- whether a byte is below 128
abbrev pub is_plain_byte : ℕ → Bool
is_plain_byte byte = nat_lt byte 128

-- whether a number can be that of an object's name
abbrev pub is_oid : ℕ → Bool
is_oid number = nat_lt number (2 ^ 48)

-- whether a text has at most 1,000 bytes, each below 128
abbrev pub is_text : Text → Bool
is_text text = nat_le (length text) SYMBOL_LIMIT && list_all is_plain_byte text

-- whether a list ascends: each item is below the one after it
abbrev pub ascends_after : {X : Type 0} → (X → X → Ordering) → X → List X → Bool
ascends_after order first [] = true
ascends_after order first (next ∷ rest) =
    is_lt (order first next) && ascends_after order next rest

abbrev pub ascends : {X : Type 0} → (X → X → Ordering) → List X → Bool
ascends order [] = true
ascends order (first ∷ rest) = ascends_after order first rest

abbrev pub texts_ascend : List Text → Bool
texts_ascend texts = ascends (slice_cmp nat_cmp) texts

-- whether a value can be stored
abbrev pub is_storable : Value → Bool
is_storable Nil = true
is_storable False = true
is_storable True = true
is_storable (Int number) = is_small_integer number
is_storable (Char code) = is_plain_byte code
is_storable (Sym name) = is_text name
is_storable (Ref oid) = is_oid oid
is_storable (Block _) = false

abbrev pub are_storable : List Value → Bool
are_storable values = nat_lt (length values) (2 ^ 32) && list_all is_storable values

abbrev pub is_storable_pair : Value × Value → Bool
is_storable_pair pair = is_storable pair.0 && is_storable pair.1

-- whether no pair has the key of a later one
abbrev pub keys_differ : List (Value × Value) → Bool
keys_differ [] = true
keys_differ (pair ∷ rest) =
    not (list_any (λ other. same_value pair.0 other.0) rest) && keys_differ rest

abbrev pub is_nil : Value → Bool
is_nil Nil = true
is_nil _ = false

abbrev pub is_dictionary_body : List (Value × Value) → Bool
is_dictionary_body pairs = nat_lt (length pairs) (2 ^ 32)
    && (list_all is_storable_pair pairs
    && (keys_differ pairs && list_all (λ pair. not (is_nil pair.0)) pairs))

abbrev pub is_code : MethodCode → Bool
is_code (Source source) = nat_lt (length source) (2 ^ 32) && list_all is_plain_byte source
is_code (Primitive number) = nat_lt number (2 ^ 8)

abbrev pub is_method : Method → Bool
is_method method = is_text method.selector && is_code method.code

abbrev pub are_methods : List Method → Bool
are_methods methods = nat_lt (length methods) (2 ^ 16)
    && (list_all is_method methods && texts_ascend (map (λ method. method.selector) methods))

abbrev pub is_superclass : Option ℕ → Bool
is_superclass None = true
is_superclass (Some number) = nat_lt 0 number && is_oid number

abbrev pub is_class_body : ClassBody → Bool
is_class_body class = is_text class.name
    && (is_superclass class.superclass
    && (nat_lt (length class.names) (2 ^ 16)
    && (list_all is_text class.names
    && (are_methods class.methods && are_methods class.class_methods))))

abbrev pub is_given : Right → Bool
is_given NoRight = false
is_given _ = true

abbrev pub is_segment_body : Rights Text → Bool
is_segment_body rights = is_oid rights.owner
    && (nat_lt (length rights.groups) (2 ^ 16)
    && (list_all (λ group. is_text group.0) rights.groups
    && (texts_ascend (map (λ group. group.0) rights.groups)
    && list_all (λ group. is_given group.1) rights.groups)))

abbrev pub is_user_body : UserBody → Bool
is_user_body user = is_text user.name
    && (nat_lt (length user.groups) (2 ^ 16)
    && (list_all is_text user.groups
    && (texts_ascend user.groups
    && (is_oid user.default_segment && is_oid user.globals))))

abbrev pub occurs : Value × ℕ → Bool
occurs pair = nat_lt 0 pair.1 && nat_lt pair.1 (2 ^ 64)

abbrev pub are_items : List (Value × ℕ) → Bool
are_items pairs = nat_lt (length pairs) (2 ^ 32)
    && (list_all (λ pair. is_storable pair.0) pairs
    && (ascends value_order (map (λ pair. pair.0) pairs) && list_all occurs pairs))

abbrev pub is_key_dictionary : List (Value × Value) → Bool
is_key_dictionary pairs = nat_lt (length pairs) (2 ^ 32)
    && (list_all is_storable_pair pairs
    && (ascends value_order (map (λ pair. pair.0) pairs)
    && list_all (λ pair. is_key pair.0) pairs))

-- whether a body can be stored
unfoldable pub is_spelled : Body → Bool
is_spelled (Plain values) = are_storable values
is_spelled (Bytes bytes) = nat_lt (length bytes) (2 ^ 32) && list_all is_plain_byte bytes
is_spelled (Dict pairs) = is_dictionary_body pairs
is_spelled (Class class) = is_class_body class
is_spelled (Segment rights) = is_segment_body rights
is_spelled (User user) = is_user_body user
is_spelled (Counter counter) = is_small_integer counter.value
is_spelled (Bag pairs) = are_items pairs
is_spelled (RcDict pairs) = is_key_dictionary pairs
is_spelled (Queue queue) = nat_lt queue.removed (2 ^ 64) && are_storable queue.items

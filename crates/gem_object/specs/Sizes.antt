-- How many bytes a value, a body and an object have where they are stored.
use Rattle.std.specs.Prelude.{ℕ, ◌+◌, List, length, sum_by}
use Rattle.texts.specs.Bytes.{Bytes as Text}
use Rattle.seg_rights.specs.declared.right.Right.{Right}
use Rattle.gem_object.specs.declared.value.Value.{Value}
use Rattle.gem_object.specs.declared.value.Value.TheVariants.{Nil, False, True, Int, Char, Sym, Ref, Block}
use Rattle.gem_object.specs.declared.body.MethodCode.{MethodCode}
use Rattle.gem_object.specs.declared.body.MethodCode.TheVariants.{Source, Primitive}
use Rattle.gem_object.specs.declared.body.Method.{Method}
use Rattle.gem_object.specs.declared.body.ClassBody.{ClassBody}
use Rattle.gem_object.specs.declared.body.UserBody.{UserBody}
use Rattle.gem_object.specs.declared.body.Body.{Body}
use Rattle.gem_object.specs.declared.body.Body.TheVariants.{Plain, Bytes, Dict, Class, Segment, User, Counter, Bag, RcDict, Queue}
use Rattle.gem_object.specs.declared.object.Object.{Object}

-- a text: two bytes for its length, and its own
abbrev pub text_size : Text → ℕ
text_size text = 2 + length text

-- A value: a byte for its tag; then eight for an integer, one for a character, a text for a
-- symbol, eight for a reference. A block is never stored, so it has none.
abbrev pub value_size : Value → ℕ
value_size Nil = 1
value_size False = 1
value_size True = 1
value_size (Int _) = 1 + 8
value_size (Char _) = 1 + 1
value_size (Sym name) = 1 + text_size name
value_size (Ref _) = 1 + 8
value_size (Block _) = 0

abbrev pub pair_size : Value × Value → ℕ
pair_size pair = value_size pair.0 + value_size pair.1

-- an item of a bag, and eight bytes for how often it occurs
abbrev pub occurrences_size : Value × ℕ → ℕ
occurrences_size pair = value_size pair.0 + 8

-- a group of a segment, and a byte for its right
abbrev pub grant_size : Text × Right → ℕ
grant_size grant = text_size grant.0 + 1

-- a byte that says which it is; then four bytes for a source's length, and the source, or one
-- byte for a primitive's number
abbrev pub code_size : MethodCode → ℕ
code_size (Source source) = 1 + 4 + length source
code_size (Primitive _) = 1 + 1

abbrev pub method_size : Method → ℕ
method_size method = text_size method.selector + code_size method.code

-- Two bytes for their number, and the methods.
abbrev pub methods_size : List Method → ℕ
methods_size methods = 2 + sum_by method_size methods

-- Two bytes for their number, and the names.
abbrev pub names_size : List Text → ℕ
names_size names = 2 + sum_by text_size names

-- the name, eight bytes for the superclass, one for the kind, and the three lists
abbrev pub class_size : ClassBody → ℕ
class_size c = text_size c.name + 8 + 1 + names_size c.names + methods_size c.methods
    + methods_size c.class_methods

-- the name, the groups, and eight bytes each for the segment and the globals
abbrev pub user_size : UserBody → ℕ
user_size user = text_size user.name + names_size user.groups + 8 + 8

-- The fields of a body. Of a segment these are eight bytes for the owner, one for the owner's
-- right, two for the number of groups, the groups, and one for the world's right; of a queue eight
-- for the removals, four for the number of items, and the items.
abbrev pub fields_size : Body → ℕ
fields_size (Plain values) = 4 + sum_by value_size values
fields_size (Bytes bytes) = 4 + length bytes
fields_size (Dict pairs) = 4 + sum_by pair_size pairs
fields_size (Class c) = class_size c
fields_size (Segment rights) = 8 + 1 + 2 + sum_by grant_size rights.groups + 1
fields_size (User user) = user_size user
fields_size (Counter _) = 8
fields_size (Bag pairs) = 4 + sum_by occurrences_size pairs
fields_size (RcDict pairs) = 4 + sum_by pair_size pairs
fields_size (Queue queue) = 8 + 4 + sum_by value_size queue.items

-- eight bytes each for the class and the segment, one for the body's tag, and the fields
abbrev pub object_size : Object → ℕ
object_size object = 8 + 8 + 1 + fields_size object.body

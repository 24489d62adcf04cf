-- The bytes of values, bodies, objects and effects where they are stored. Numbers have their low
-- byte first.
use Rattle.std.specs.Prelude.{ℕ, ℤ, ◌%◌, ◌^◌, List, [], ◌∷◌, ◌++◌, length, Option, Some, None}
use Rattle.std.specs.List.{flat_map}
use Rattle.std.specs.Int.{w16, w32, w64, to_le_bytes, cast_unsigned}
use Rattle.gem_object.specs.texts.Bytes.{Bytes as Text}
use Rattle.gem_object.specs.seg_rights.declared.right.Right.{Right}
use Rattle.gem_object.specs.seg_rights.declared.rights.Rights.{Rights}
use Rattle.gem_object.specs.seg_rights.Right.{rank_of}
use Rattle.gem_object.specs.rc_queue.Contents.{Contents}
use Rattle.gem_object.specs.Order.{tag_of}
use Rattle.gem_object.specs.Kinds.{kind_number}
use Rattle.gem_object.specs.declared.value.Value.{Value}
use Rattle.gem_object.specs.declared.value.Value.TheVariants.{Nil, False, True, Int, Char, Sym, Ref, Block}
use Rattle.gem_object.specs.declared.body.MethodCode.{MethodCode}
use Rattle.gem_object.specs.declared.body.MethodCode.TheVariants.{Source, Primitive}
use Rattle.gem_object.specs.declared.body.Method.{Method}
use Rattle.gem_object.specs.declared.body.ClassBody.{ClassBody}
use Rattle.gem_object.specs.declared.body.UserBody.{UserBody}
use Rattle.gem_object.specs.declared.body.Body.{Body}
use Rattle.gem_object.specs.declared.body.Body.TheVariants.{Plain, Bytes, Dict, Class, Segment, User, Counter, Bag, RcDict, Queue}
use Rattle.gem_object.specs.declared.object.Object.{Object}
use Rattle.gem_record.specs.declared.effect.Effect.{Effect}

-- a number in two bytes: its low bits, where it has more
unfoldable pub two_bytes : ℕ → List ℕ
two_bytes number = to_le_bytes w16 (number % 2 ^ 16)

-- a number in four bytes: its low bits, where it has more
unfoldable pub four_bytes : ℕ → List ℕ
four_bytes number = to_le_bytes w32 (number % 2 ^ 32)

-- a number below 2^64 in eight bytes
unfoldable pub eight_bytes : ℕ → List ℕ
eight_bytes number = to_le_bytes w64 number

-- an integer in eight bytes: a negative one as the number that is greater by 2^64
abbrev pub integer_bytes : ℤ → List ℕ
integer_bytes number = eight_bytes (cast_unsigned w64 number)

-- a text: its length in two bytes, and its own bytes
abbrev pub spelled_text : Text → List ℕ
spelled_text text = two_bytes (length text) ++ text

-- what stands behind the tag of a value; a block is never stored, so it has no bytes
abbrev pub spelled_content : Value → List ℕ
spelled_content Nil = []
spelled_content False = []
spelled_content True = []
spelled_content (Int number) = integer_bytes number
spelled_content (Char code) = code ∷ []
spelled_content (Sym name) = spelled_text name
spelled_content (Ref oid) = eight_bytes oid
spelled_content (Block _) = []

-- a value: its tag, from 0 to 6, and its content
abbrev pub spelled_value : Value → List ℕ
spelled_value (Block _) = []
spelled_value value = tag_of value ∷ spelled_content value

abbrev pub spelled_pair : Value × Value → List ℕ
spelled_pair pair = spelled_value pair.0 ++ spelled_value pair.1

-- an item of a bag, and how often it occurs
abbrev pub spelled_occurrences : Value × ℕ → List ℕ
spelled_occurrences pair = spelled_value pair.0 ++ eight_bytes pair.1

-- a group of a segment, and its right
abbrev pub spelled_grant : Text × Right → List ℕ
spelled_grant grant = spelled_text grant.0 ++ (rank_of grant.1 ∷ [])

-- the code of a method: 0 and its source, or 1 and the number of its primitive
abbrev pub spelled_code : MethodCode → List ℕ
spelled_code (Source source) = 0 ∷ (four_bytes (length source) ++ source)
spelled_code (Primitive number) = 1 ∷ number ∷ []

abbrev pub spelled_method : Method → List ℕ
spelled_method method = spelled_text method.selector ++ spelled_code method.code

module _ {X : Type 0} (spelled : X → List ℕ) where
  -- a list: how many items it has, in two bytes, and the items
  abbrev pub short_list : List X → List ℕ
  short_list items = two_bytes (length items) ++ flat_map spelled items

  -- the same with a count of four bytes
  abbrev pub long_list : List X → List ℕ
  long_list items = four_bytes (length items) ++ flat_map spelled items

-- the name of the superclass, or 0 where there is none
abbrev pub spelled_superclass : Option ℕ → List ℕ
spelled_superclass None = eight_bytes 0
spelled_superclass (Some oid) = eight_bytes oid

-- the names of the instance variables, the methods of the instances, and the class's own
abbrev pub spelled_members : ClassBody → List ℕ
spelled_members c = short_list spelled_text c.names
    ++ (short_list spelled_method c.methods ++ short_list spelled_method c.class_methods)

abbrev pub spelled_class : ClassBody → List ℕ
spelled_class c = spelled_text c.name
    ++ (spelled_superclass c.superclass ++ (kind_number c.kind ∷ spelled_members c))

abbrev pub spelled_segment : Rights Text → List ℕ
spelled_segment rights = eight_bytes rights.owner ++ (rank_of rights.owner_right
    ∷ (short_list spelled_grant rights.groups ++ (rank_of rights.world_right ∷ [])))

abbrev pub spelled_user : UserBody → List ℕ
spelled_user user = spelled_text user.name ++ (short_list spelled_text user.groups
    ++ (eight_bytes user.default_segment ++ eight_bytes user.globals))

-- how often the front was removed, and the items
abbrev pub spelled_queue : Contents Value → List ℕ
spelled_queue queue = eight_bytes queue.removed ++ long_list spelled_value queue.items

-- the tag of a body
abbrev pub body_tag : Body → ℕ
body_tag (Plain _) = 0
body_tag (Bytes _) = 1
body_tag (Dict _) = 2
body_tag (Class _) = 3
body_tag (Segment _) = 4
body_tag (User _) = 5
body_tag (Counter _) = 6
body_tag (Bag _) = 7
body_tag (RcDict _) = 8
body_tag (Queue _) = 9

-- what stands behind the tag
abbrev pub spelled_fields : Body → List ℕ
spelled_fields (Plain values) = long_list spelled_value values
spelled_fields (Bytes bytes) = four_bytes (length bytes) ++ bytes
spelled_fields (Dict pairs) = long_list spelled_pair pairs
spelled_fields (Class c) = spelled_class c
spelled_fields (Segment rights) = spelled_segment rights
spelled_fields (User user) = spelled_user user
spelled_fields (Counter counter) = integer_bytes counter.value
spelled_fields (Bag pairs) = long_list spelled_occurrences pairs
spelled_fields (RcDict pairs) = long_list spelled_pair pairs
spelled_fields (Queue queue) = spelled_queue queue

abbrev pub spelled_body : Body → List ℕ
spelled_body body = body_tag body ∷ spelled_fields body

-- An object: the names of its class and its segment, and its body. The number of the commit that
-- changed it isn't written.
abbrev pub spelled_object : Object → List ℕ
spelled_object object =
    eight_bytes object.class ++ (eight_bytes object.segment ++ spelled_body object.body)

-- an object behind its name
abbrev pub spelled_changed : ℕ × Object → List ℕ
spelled_changed changed = eight_bytes changed.0 ++ spelled_object changed.1

-- an effect: its objects, each behind its name; the number of the commit isn't written
abbrev pub spelled_effect : Effect → List ℕ
spelled_effect effect = long_list spelled_changed effect.objects

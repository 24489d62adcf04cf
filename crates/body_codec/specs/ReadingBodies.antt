-- Bodies, objects and effects at the front of bytes, field by field.
use Rattle.std.specs.Prelude.{ℕ, ℤ, ◌==◌, if◌then◌else◌, List, Option, Some, None, is_some, option_map, Ok}
use Rattle.std.specs.Ordering.{nat_cmp}
use Rattle.std.specs.declared.cmp.Ordering.{Ordering}
use Rattle.std.specs.Int.{w64}
use Rattle.std.specs.Cmp.Lexicographic.{slice_cmp}
use Rattle.gem_object.specs.texts.Bytes.{Bytes as Text}
use Rattle.gem_object.specs.seg_rights.declared.right.Right.{Right}
use Rattle.gem_object.specs.seg_rights.declared.right.Right.TheVariants as right
use Rattle.gem_object.specs.seg_rights.declared.rights.Rights.{Rights}
use Rattle.gem_object.specs.rc_counter_bag.declared.counter.Counter.{Counter as CounterOf}
use Rattle.gem_object.specs.rc_queue.Contents.{Contents}
use Rattle.gem_object.specs.insertion_map.Pairs.{entry_of}
use Rattle.gem_object.specs.Order.{value_order, same_value}
use Rattle.gem_object.specs.declared.kind.Kind.{Kind}
use Rattle.gem_object.specs.declared.kind.Kind.TheVariants as kind
use Rattle.gem_object.specs.declared.value.Value.{Value}
use Rattle.gem_object.specs.declared.body.MethodCode.{MethodCode}
use Rattle.gem_object.specs.declared.body.MethodCode.TheVariants.{Source, Primitive}
use Rattle.gem_object.specs.declared.body.Method.{Method}
use Rattle.gem_object.specs.declared.body.ClassBody.{ClassBody}
use Rattle.gem_object.specs.declared.body.UserBody.{UserBody}
use Rattle.gem_object.specs.declared.body.Body.{Body}
use Rattle.gem_object.specs.declared.body.Body.TheVariants.{Plain, Bytes, Dict, Class, Segment, User, Counter, Bag, RcDict, Queue}
use Rattle.gem_object.specs.declared.object.Object.{Object}
use Rattle.gem_record.specs.declared.effect.Effect.{Effect}
use Rattle.body_codec.specs.declared.fault.BodyRule.TheVariants as rule
use Rattle.body_codec.specs.Reading.{◌>>=◌, ◌&◌, Reader, breaks, made, number_at, byte_at, name_at, integer_at, times_at, text_at, bytes_at, value_at, key_at, coded_at, last_of, above_at, short_at, long_at, some_at}

-- the order of texts: by their bytes
abbrev pub text_order : Text → Text → Ordering
text_order text other = slice_cmp nat_cmp text other

-- the kind, or the right, of a number
abbrev pub kind_of : ℕ → Option Kind
kind_of number =
    if number == 0 then Some kind.None else (
    if number == 1 then Some kind.Plain else (
    if number == 2 then Some kind.Indexed else (
    if number == 3 then Some kind.Bytes else (
    if number == 4 then Some kind.Dict else (
    if number == 5 then Some kind.Segment else (
    if number == 6 then Some kind.User else (
    if number == 7 then Some kind.Counter else (
    if number == 8 then Some kind.Bag else (
    if number == 9 then Some kind.RcDict else (
    if number == 10 then Some kind.Queue else None))))))))))

abbrev pub right_of : ℕ → Option Right
right_of number =
    if number == 0 then Some right.None else (
    if number == 1 then Some right.Read else (
    if number == 2 then Some right.Write else None))

-- the right of a group, which isn't none
abbrev pub given_right_of : ℕ → Option Right
given_right_of number =
    if number == 1 then Some right.Read else (
    if number == 2 then Some right.Write else None)

abbrev pub kind_at : Reader Kind
kind_at bytes = coded_at kind_of rule.Kind bytes

abbrev pub right_at : Reader Right
right_at bytes = coded_at right_of rule.Range bytes

abbrev pub given_right_at : Reader Right
given_right_at bytes = coded_at given_right_of rule.Range bytes

-- the superclass: the number 0 is none
abbrev pub superclass_of : ℕ → Option ℕ
superclass_of number = if number == 0 then None else Some number

abbrev pub superclass_at : Reader (Option ℕ)
superclass_at bytes = made superclass_of (name_at bytes)

-- the code of a method of this tag
abbrev pub code_of_tag : ℕ → List ℕ → Reader MethodCode
code_of_tag tag bytes rest =
    if tag == 0 then made Source (bytes_at rest) else (
    if tag == 1 then made Primitive (byte_at rest) else
    breaks bytes rule.Kind)

unfoldable pub code_at : Reader MethodCode
code_at bytes = do
  tag ← byte_at bytes
  code_of_tag tag.0 bytes tag.1

-- ---- Items of lists, each behind the items before it.

-- a method, whose selector is above that of the last
abbrev pub method_of : Text × MethodCode → Method
method_of parts = record { selector = parts.0; code = parts.1 }

unfoldable pub method_at : List Method → Reader Method
method_at before bytes = made method_of ((above_at text_order
    (option_map (λ method. method.selector) (last_of before)) text_at & code_at) bytes)

-- a group of a segment with its right, and a group of a user; the groups ascend
unfoldable pub grant_at : List (Text × Right) → Reader (Text × Right)
grant_at before bytes = (above_at text_order
    (option_map (λ grant. grant.0) (last_of before)) text_at & given_right_at) bytes

abbrev pub group_at : List Text → Reader Text
group_at before bytes = above_at text_order (last_of before) text_at bytes

-- an item of a bag, which is above the last, with how often it occurs
unfoldable pub occurrences_at : List (Value × ℕ) → Reader (Value × ℕ)
occurrences_at before bytes = (above_at value_order
    (option_map (λ pair. pair.0) (last_of before)) value_at & times_at) bytes

-- a pair of a dictionary whose updates are merged: the keys ascend
unfoldable pub sorted_pair_at : List (Value × Value) → Reader (Value × Value)
sorted_pair_at before bytes = (above_at value_order
    (option_map (λ pair. pair.0) (last_of before)) (key_at 5) & value_at) bytes

-- a key of another dictionary: no key stands twice
unfoldable pub new_key_at : List (Value × Value) → Reader Value
new_key_at before bytes = do
  key ← key_at 6 bytes
  if is_some (entry_of same_value key.0 before) then breaks bytes rule.Order else Ok key

unfoldable pub pair_at : List (Value × Value) → Reader (Value × Value)
pair_at before bytes = (new_key_at before & value_at) bytes

-- ---- Bodies.

abbrev pub ClassFields : Type 0
ClassFields = Text × (Option ℕ × (Kind × (List Text × (List Method × List Method))))

abbrev pub class_of : ClassFields → ClassBody
class_of f = record {
  name = f.0;
  superclass = f.1.0;
  kind = f.1.1.0;
  names = f.1.1.1.0;
  methods = f.1.1.1.1.0;
  class_methods = f.1.1.1.1.1;
}

unfoldable pub class_at : Reader ClassBody
class_at bytes = made class_of ((text_at & superclass_at & kind_at
    & short_at (λ _. text_at) & short_at method_at & short_at method_at) bytes)

abbrev pub rights_of : ℕ × (Right × (List (Text × Right) × Right)) → Rights Text
rights_of f = record {
  owner = f.0;
  owner_right = f.1.0;
  groups = f.1.1.0;
  world_right = f.1.1.1;
}

unfoldable pub segment_at : Reader (Rights Text)
segment_at bytes = made rights_of ((name_at & right_at & short_at grant_at & right_at) bytes)

abbrev pub user_of : Text × (List Text × (ℕ × ℕ)) → UserBody
user_of f = record {
  name = f.0;
  groups = f.1.0;
  default_segment = f.1.1.0;
  globals = f.1.1.1;
}

unfoldable pub user_at : Reader UserBody
user_at bytes = made user_of ((text_at & short_at group_at & name_at & name_at) bytes)

abbrev pub counter_of : ℤ → CounterOf
counter_of value = record { value = value }

-- how often the front was removed, and the items
abbrev pub queue_of : ℕ × List Value → Contents Value
queue_of f = record { removed = f.0; items = f.1 }

unfoldable pub queue_at : Reader (Contents Value)
queue_at bytes = made queue_of ((number_at w64 & long_at (λ _. value_at)) bytes)

-- the body of this tag, whose fields are at the front of the rest of the bytes
unfoldable pub fields_at : ℕ → List ℕ → Reader Body
fields_at tag bytes rest =
    if tag == 0 then made Plain (long_at (λ _. value_at) rest) else (
    if tag == 1 then made Bytes (bytes_at rest) else (
    if tag == 2 then made Dict (long_at pair_at rest) else (
    if tag == 3 then made Class (class_at rest) else (
    if tag == 4 then made Segment (segment_at rest) else (
    if tag == 5 then made User (user_at rest) else (
    if tag == 6 then made (λ value. Counter (counter_of value)) (integer_at rest) else (
    if tag == 7 then made Bag (long_at occurrences_at rest) else (
    if tag == 8 then made RcDict (long_at sorted_pair_at rest) else (
    if tag == 9 then made Queue (queue_at rest) else
    breaks bytes rule.Kind)))))))))

unfoldable pub body_at : Reader Body
body_at bytes = do
  tag ← byte_at bytes
  fields_at tag.0 bytes tag.1

-- ---- Objects and effects. The number of the commit that changed them isn't among the bytes.

abbrev pub object_of : ℕ → ℕ × (ℕ × Body) → Object
object_of number f = record {
  class = f.0;
  segment = f.1.0;
  changed = number;
  body = f.1.1;
}

unfoldable pub object_at : ℕ → Reader Object
object_at number bytes = made (object_of number) ((name_at & name_at & body_at) bytes)

-- an object behind its name, which is above the last
unfoldable pub changed_at : ℕ → List (ℕ × Object) → Reader (ℕ × Object)
changed_at number before bytes = (above_at nat_cmp
    (option_map (λ changed. changed.0) (last_of before)) name_at & object_at number) bytes

abbrev pub effect_of : ℕ → List (ℕ × Object) → Effect
effect_of number objects = record { number = number; objects = objects }

unfoldable pub effect_at : ℕ → Reader Effect
effect_at number bytes = made (effect_of number) (some_at (changed_at number) bytes)

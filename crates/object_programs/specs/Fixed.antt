-- The fixed part of an object, which nothing changes: a program may know it without an access.
use Rattle.std.specs.Prelude.{ℕ, Bool, true, false, ◌&&◌, nat_eq, bytes_eq, List, Option, None, Some, option_map}
use Rattle.std.specs.Cmp.Lexicographic.{pointwise}
use Rattle.gem_object.specs.texts.Bytes.{Bytes as Text}
use Rattle.gem_object.specs.Kinds.{kind_number}
use Rattle.gem_object.specs.declared.kind.Kind.{Kind}
use Rattle.gem_object.specs.declared.body.Body.{Body}
use Rattle.gem_object.specs.declared.body.Body.TheVariants.{Plain, Bytes, Dict, Class, Segment, User, Counter, Bag, RcDict, Queue}
use Rattle.gem_world.specs.gem_image.Image.{Contents}
use Rattle.gem_world.specs.World.{Setting, World, shown}

-- The kinds of bodies.
pub data BodyKind : Type 0 where
  PlainKind : BodyKind
  BytesKind : BodyKind
  DictKind : BodyKind
  ClassKind : BodyKind
  SegmentKind : BodyKind
  UserKind : BodyKind
  CounterKind : BodyKind
  BagKind : BodyKind
  RcDictKind : BodyKind
  QueueKind : BodyKind

-- the kind of a body
abbrev pub body_kind : Body → BodyKind
body_kind (Plain _) = PlainKind
body_kind (Bytes _) = BytesKind
body_kind (Dict _) = DictKind
body_kind (Class _) = ClassKind
body_kind (Segment _) = SegmentKind
body_kind (User _) = UserKind
body_kind (Counter _) = CounterKind
body_kind (Bag _) = BagKind
body_kind (RcDict _) = RcDictKind
body_kind (Queue _) = QueueKind

-- What of a class is fixed: its superclass, which body its instances have, and the names of the
-- instance variables that it adds.
pub record ClassPart : Type 0 where
  pub superclass : Option ℕ
  pub kind : Kind
  pub names : List Text

abbrev pub class_part : Body → Option ClassPart
class_part (Class class) =
    Some (record { superclass = class.superclass; kind = class.kind; names = class.names })
class_part _ = None

-- The fixed part of an object: its class, the kind of its body, and what of a class is fixed.
pub record Fixed : Type 0 where
  pub class : ℕ
  pub kind : BodyKind
  pub as_class : Option ClassPart

abbrev pub fixed_of : Contents → Fixed
fixed_of object = record {
  class = object.class;
  kind = body_kind object.body;
  as_class = class_part object.body;
}

-- the fixed part of the object of this name, as it is seen now
abbrev pub fixed_by : Setting → World → ℕ → Option Fixed
fixed_by setting world name = option_map fixed_of (shown name setting world)

-- whether two kinds of bodies, two kinds of classes and two numbers that may be there are the same
abbrev pub same_body_kind : BodyKind → BodyKind → Bool
same_body_kind PlainKind PlainKind = true
same_body_kind BytesKind BytesKind = true
same_body_kind DictKind DictKind = true
same_body_kind ClassKind ClassKind = true
same_body_kind SegmentKind SegmentKind = true
same_body_kind UserKind UserKind = true
same_body_kind CounterKind CounterKind = true
same_body_kind BagKind BagKind = true
same_body_kind RcDictKind RcDictKind = true
same_body_kind QueueKind QueueKind = true
same_body_kind _ _ = false

abbrev pub same_kind : Kind → Kind → Bool
same_kind kind other = nat_eq (kind_number kind) (kind_number other)

abbrev pub same_number : Option ℕ → Option ℕ → Bool
same_number None None = true
same_number (Some number) (Some other) = nat_eq number other
same_number _ _ = false

abbrev pub same_part : Option ClassPart → Option ClassPart → Bool
same_part None None = true
same_part (Some part) (Some other) = same_number part.superclass other.superclass
    && same_kind part.kind other.kind && pointwise bytes_eq part.names other.names
same_part _ _ = false

-- whether two fixed parts are the same
unfoldable pub same_fixed : Fixed → Fixed → Bool
same_fixed fixed other = nat_eq fixed.class other.class
    && same_body_kind fixed.kind other.kind && same_part fixed.as_class other.as_class

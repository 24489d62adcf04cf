-- The objects that every image has: the kernel's classes, what the other objects of the kernel are,
-- and in which class each primitive stands.
use Rattle.std.specs.Prelude.{ℕ, Bool, true, false, ◌&&◌, cond, nat_eq, bytes_eq, List, [], ◌∷◌, ◌++◌, map, filter, slice_get, zero, suc, Option, None, Some}
use Rattle.std.specs.List.{list_any}
use Rattle.gem_object.specs.texts.Bytes.{Bytes as Text}
use Rattle.op_table.specs.Prims.{Primitive, prim_at}
use Rattle.op_table.specs.declared.prims.Kind.{Kind as Receiver}
use Rattle.op_table.specs.declared.prims.Kind.TheVariants as receiver
use Rattle.gem_object.specs.Kinds.{kind_number}
use Rattle.gem_object.specs.declared.kind.Kind.{Kind}
use Rattle.gem_object.specs.declared.kind.Kind.TheVariants.{None as NoInstances, Plain, Indexed, Bytes, Dict, Segment, User, Counter, Bag, RcDict, Queue}
use Rattle.gem_object.specs.declared.body.Body.{Body}
use Rattle.gem_object.specs.declared.body.Body.TheVariants as body

-- the item of a list with this number, where they are numbered from 1
abbrev pub numbered : {X : Type 0} → List X → ℕ → Option X
numbered items zero = None
numbered items (suc before) = slice_get items before

-- the numbers of three classes that rules name: Object, Class and TranscriptStream
abbrev pub object_class : ℕ
object_class = 1

abbrev pub class_class : ℕ
class_class = 2

abbrev pub transcript_class : ℕ
transcript_class = 26

-- a class of the kernel: the number of its superclass, and which body its instances have
pub record KernelClass : Type 0 where
  pub superclass : Option ℕ
  pub kind : Kind

abbrev pub under : ℕ → Kind → KernelClass
under superclass kind = record { superclass = Some superclass; kind = kind }

-- the classes, in the order of their numbers from 1 on
unfoldable pub kernel_classes : List KernelClass
kernel_classes =
    record { superclass = None; kind = Plain }  -- 1 Object
    ∷ under 1 NoInstances  -- 2 Class
    ∷ under 1 NoInstances  -- 3 UndefinedObject
    ∷ under 1 NoInstances  -- 4 Boolean
    ∷ under 4 NoInstances  -- 5 True
    ∷ under 4 NoInstances  -- 6 False
    ∷ under 1 Plain  -- 7 Magnitude
    ∷ under 7 NoInstances  -- 8 Character
    ∷ under 7 NoInstances  -- 9 SmallInteger
    ∷ under 1 NoInstances  -- 10 Block
    ∷ under 1 Plain  -- 11 Collection
    ∷ under 11 Plain  -- 12 SequenceableCollection
    ∷ under 12 Indexed  -- 13 Array
    ∷ under 12 Indexed  -- 14 OrderedCollection
    ∷ under 12 Bytes  -- 15 String
    ∷ under 12 NoInstances  -- 16 Symbol
    ∷ under 11 Dict  -- 17 IdentityDictionary
    ∷ under 17 Dict  -- 18 SymbolDictionary
    ∷ under 1 Counter  -- 19 RcCounter
    ∷ under 11 Bag  -- 20 RcIdentityBag
    ∷ under 11 RcDict  -- 21 RcKeyValueDictionary
    ∷ under 11 Queue  -- 22 RcQueue
    ∷ under 1 Segment  -- 23 Segment
    ∷ under 1 User  -- 24 UserProfile
    ∷ under 1 NoInstances  -- 25 System
    ∷ under 1 NoInstances  -- 26 TranscriptStream
    ∷ []

-- the class of the kernel with this number, if there is one
abbrev pub kernel_class : ℕ → Option KernelClass
kernel_class number = numbered kernel_classes number

-- the numbers from 1 to 26
unfoldable pub class_numbers : List ℕ
class_numbers = 1 ∷ 2 ∷ 3 ∷ 4 ∷ 5 ∷ 6 ∷ 7 ∷ 8 ∷ 9 ∷ 10 ∷ 11 ∷ 12 ∷ 13 ∷ 14 ∷ 15 ∷ 16 ∷ 17 ∷ 18
    ∷ 19 ∷ 20 ∷ 21 ∷ 22 ∷ 23 ∷ 24 ∷ 25 ∷ 26 ∷ []

abbrev pub is_the : ℕ → Option ℕ → Bool
is_the number None = false
is_the number (Some other) = nat_eq number other

abbrev pub is_under : ℕ → Option KernelClass → Bool
is_under superclass None = false
is_under superclass (Some class) = is_the superclass class.superclass

abbrev pub is_of_kind : Kind → Option KernelClass → Bool
is_of_kind kind None = false
is_of_kind kind (Some class) = nat_eq (kind_number class.kind) (kind_number kind)

-- the classes of the kernel right under this one, and those of this kind, by their numbers
unfoldable pub subclasses : ℕ → List ℕ
subclasses superclass = filter (λ number. is_under superclass (kernel_class number)) class_numbers

unfoldable pub of_kind : Kind → List ℕ
of_kind kind = filter (λ number. is_of_kind kind (kernel_class number)) class_numbers

-- What body an object of the kernel has.
pub data KernelBody : Type 0 where
  a_class : KernelBody
  a_dictionary : KernelBody
  a_segment : KernelBody
  a_user : KernelBody
  no_slots : KernelBody

-- the objects of the kernel, in the order of their numbers from 1 on: the classes, and the others
unfoldable pub kernel_bodies : List KernelBody
kernel_bodies =
    map (λ class. a_class) kernel_classes
    ++ a_dictionary  -- 27 Globals
    ∷ a_dictionary  -- 28 AllUsers
    ∷ a_segment  -- 29 SystemSegment
    ∷ a_segment  -- 30 DataCuratorSegment
    ∷ a_user  -- 31 SystemUser
    ∷ a_user  -- 32 DataCurator
    ∷ a_dictionary  -- 33 the globals of SystemUser
    ∷ a_dictionary  -- 34 the globals of DataCurator
    ∷ no_slots  -- 35 Transcript
    ∷ []

-- what body the object of the kernel with this number has; None where there is no such object
abbrev pub kernel_body : ℕ → Option KernelBody
kernel_body number = numbered kernel_bodies number

-- whether a body is of that kind
abbrev pub has_kind : KernelBody → Body → Bool
has_kind a_class (body.Class _) = true
has_kind a_dictionary (body.Dict _) = true
has_kind a_segment (body.Segment _) = true
has_kind a_user (body.User _) = true
has_kind no_slots (body.Plain []) = true
has_kind _ _ = false

-- the classes in which a primitive for these receivers stands among the methods of instances
abbrev pub classes_of : Receiver → List ℕ
classes_of receiver.Any = 1 ∷ []
classes_of receiver.Integer = 9 ∷ []
classes_of receiver.Character = 8 ∷ []
classes_of receiver.Block = 10 ∷ []
classes_of receiver.Sequence = 13 ∷ 14 ∷ []
classes_of receiver.Ordered = 14 ∷ []
classes_of receiver.Chars = 15 ∷ 16 ∷ []
classes_of receiver.Str = 15 ∷ []
classes_of receiver.Class = 2 ∷ []
classes_of receiver.Dictionary = 17 ∷ []
classes_of receiver.Segment = 23 ∷ []
classes_of receiver.User = 24 ∷ []
classes_of receiver.UserClass = []
classes_of receiver.SystemClass = []
classes_of receiver.Transcript = 26 ∷ []
classes_of receiver.Counter = 19 ∷ []
classes_of receiver.Bag = 20 ∷ []
classes_of receiver.RcDict = 21 ∷ []
classes_of receiver.Queue = 22 ∷ []

-- the classes in which it stands on the class side
abbrev pub class_sides_of : Receiver → List ℕ
class_sides_of receiver.UserClass = 24 ∷ []
class_sides_of receiver.SystemClass = 25 ∷ []
class_sides_of _ = []

abbrev pub stands_where : (class : ℕ) (class_side : Bool) (selector : Text)
    → Option Primitive → Bool
stands_where class class_side selector None = false
stands_where class class_side selector (Some primitive) =
    bytes_eq primitive.selector selector
    && list_any (nat_eq class)
    (cond class_side (class_sides_of primitive.receiver) (classes_of primitive.receiver))

-- whether the primitive of this number stands in the class, on that side and under the selector
unfoldable pub may_stand : (class : ℕ) (class_side : Bool) (selector : Text) → ℕ → Bool
may_stand class class_side selector number =
    stands_where class class_side selector (prim_at number)

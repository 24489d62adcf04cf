-- What can be stored: values, bodies and objects that have a spelling.
use Rattle.std.specs.Prelude.{◌≢◌, ◌≤◌, ◌<◌, ◌^◌, ℕ, Bool, true, false, IsTrue, List, map, length, All}
use Rattle.std.specs.Option.{IfSome}
use Rattle.std.specs.Ordering.{nat_cmp}
use Rattle.std.specs.Cmp.Lexicographic.{slice_cmp}
use Rattle.std.specs.List.Sorted.{IsStrictlySortedBy}
use Rattle.texts.specs.Bytes.{Bytes as Text}
use Rattle.texts.specs.SmallInteger.{is_small_integer}
use Rattle.seg_rights.specs.declared.right.Right.TheVariants.{None as NoRight}
use Rattle.seg_rights.specs.declared.rights.Rights.{Rights}
use Rattle.insertion_map.specs.Pairs.{AreDistinct}
use Rattle.gem_object.specs.Order.{value_order, same_value}
use Rattle.gem_object.specs.declared.value.Value.{Value}
use Rattle.gem_object.specs.declared.value.Value.TheVariants.{Nil, False, True, Int, Char, Sym, Ref, Block}
use Rattle.gem_object.specs.declared.body.MethodCode.{MethodCode}
use Rattle.gem_object.specs.declared.body.MethodCode.TheVariants.{Source, Primitive}
use Rattle.gem_object.specs.declared.body.Method.{Method}
use Rattle.gem_object.specs.declared.body.ClassBody.{ClassBody}
use Rattle.gem_object.specs.declared.body.UserBody.{UserBody}
use Rattle.gem_object.specs.declared.body.Body.{Body}
use Rattle.gem_object.specs.declared.body.Body.TheVariants.{Plain, Bytes, Dict, Class, Segment, User, Counter, Bag, RcDict, Queue}
use Rattle.gem_object.specs.declared.object.Object.{Object}

-- a byte of a text that is stored
abbrev pub IsPlainByte : ℕ → Type 0
IsPlainByte byte = byte < 128

-- the number of an object's name
abbrev pub IsOid : ℕ → Type 0
IsOid number = number < 2 ^ 48

-- a text: at most 1,000 bytes, each below 128
pub record IsText (text : Text) : Type 0 where
  pub short : length text ≤ 1000
  pub bytes : All IsPlainByte text

-- texts that ascend, each below those after it
abbrev pub Ascend : List Text → Type 0
Ascend texts = IsStrictlySortedBy (slice_cmp nat_cmp) texts

-- A value: its integer is one of the language's, its character and the bytes of its symbol are
-- below 128. A block is never stored.
abbrev pub IsStorable : Value → Type 0
IsStorable Nil = Unit {0}
IsStorable False = Unit {0}
IsStorable True = Unit {0}
IsStorable (Int number) = IsTrue (is_small_integer number)
IsStorable (Char code) = IsPlainByte code
IsStorable (Sym name) = IsText name
IsStorable (Ref oid) = IsOid oid
IsStorable (Block _) = ⊥

-- values: fewer than 2^32
pub record AreStorable (values : List Value) : Type 0 where
  pub count : length values < 2 ^ 32
  pub each : All IsStorable values

-- the key and the value of a pair
abbrev pub IsStorablePair : Value × Value → Type 0
IsStorablePair pair = IsStorable pair.0 × IsStorable pair.1

-- pairs of a dictionary: their keys are distinct and not nil
pub record IsDictionary (pairs : List (Value × Value)) : Type 0 where
  pub count : length pairs < 2 ^ 32
  pub each : All IsStorablePair pairs
  pub distinct : AreDistinct same_value pairs
  pub no_nil : All (λ pair. pair.0 ≢ Nil) pairs

-- a method's code: a source of fewer than 2^32 bytes, or a primitive's number of one byte
pub record IsSource (source : Text) : Type 0 where
  pub count : length source < 2 ^ 32
  pub bytes : All IsPlainByte source

abbrev pub IsCode : MethodCode → Type 0
IsCode (Source source) = IsSource source
IsCode (Primitive number) = number < 2 ^ 8

-- a method: a selector and its code
abbrev pub IsMethod : Method → Type 0
IsMethod method = IsText method.selector × IsCode method.code

-- methods, ascending by selector
pub record AreMethods (methods : List Method) : Type 0 where
  pub count : length methods < 2 ^ 16
  pub each : All IsMethod methods
  pub ascend : Ascend (map (λ method. method.selector) methods)

-- a class: a superclass, where it has one, isn't the name 0, which stands for none
pub record IsClass (c : ClassBody) : Type 0 where
  pub name : IsText c.name
  pub superclass : IfSome c.superclass (λ number. (0 < number) × IsOid number)
  pub names_count : length c.names < 2 ^ 16
  pub names : All IsText c.names
  pub methods : AreMethods c.methods
  pub class_methods : AreMethods c.class_methods

-- a segment: its groups ascend by name, and each has a right
pub record IsSegment (rights : Rights Text) : Type 0 where
  pub owner : IsOid rights.owner
  pub count : length rights.groups < 2 ^ 16
  pub names : All (λ group. IsText group.0) rights.groups
  pub ascend : Ascend (map (λ group. group.0) rights.groups)
  pub given : All (λ group. group.1 ≢ NoRight) rights.groups

-- a user: the groups ascend
pub record IsUser (user : UserBody) : Type 0 where
  pub name : IsText user.name
  pub count : length user.groups < 2 ^ 16
  pub groups : All IsText user.groups
  pub ascend : Ascend user.groups
  pub default_segment : IsOid user.default_segment
  pub globals : IsOid user.globals

-- a bag: its items ascend, and each occurs
pub record IsItems (pairs : List (Value × ℕ)) : Type 0 where
  pub count : length pairs < 2 ^ 32
  pub each : All (λ pair. IsStorable pair.0) pairs
  pub ascend : IsStrictlySortedBy value_order (map (λ pair. pair.0) pairs)
  pub occur : All (λ pair. (0 < pair.1) × (pair.1 < 2 ^ 64)) pairs

-- whether a value may be the key of a dictionary whose updates are merged: it is a Boolean, an
-- integer, a character or a symbol
abbrev pub is_key : Value → Bool
is_key False = true
is_key True = true
is_key (Int _) = true
is_key (Char _) = true
is_key (Sym _) = true
is_key _ = false

-- such a dictionary: its keys ascend
pub record IsKeyDictionary (pairs : List (Value × Value)) : Type 0 where
  pub count : length pairs < 2 ^ 32
  pub each : All IsStorablePair pairs
  pub ascend : IsStrictlySortedBy value_order (map (λ pair. pair.0) pairs)
  pub keys : All (λ pair. IsTrue (is_key pair.0)) pairs

-- bytes: fewer than 2^32, each below 128
abbrev pub IsByteString : List ℕ → Type 0
IsByteString bytes = (length bytes < 2 ^ 32) × All IsPlainByte bytes

-- a body has a spelling
abbrev pub IsSpelledBody : Body → Type 0
IsSpelledBody (Plain values) = AreStorable values
IsSpelledBody (Bytes bytes) = IsByteString bytes
IsSpelledBody (Dict pairs) = IsDictionary pairs
IsSpelledBody (Class c) = IsClass c
IsSpelledBody (Segment rights) = IsSegment rights
IsSpelledBody (User user) = IsUser user
IsSpelledBody (Counter counter) = IsTrue (is_small_integer counter.value)
IsSpelledBody (Bag pairs) = IsItems pairs
IsSpelledBody (RcDict pairs) = IsKeyDictionary pairs
IsSpelledBody (Queue queue) = (queue.removed < 2 ^ 64) × AreStorable queue.items

-- an object has a spelling
pub record IsSpelled (object : Object) : Type 0 where
  pub class_name : IsOid object.class
  pub segment_name : IsOid object.segment
  pub body : IsSpelledBody object.body

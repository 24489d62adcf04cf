-- Sound objects, those of an image or those that a transaction sees: the rules that each of them
-- keeps.
use Rattle.std.specs.Prelude.{◌≡◌, ◌<◌, ◌≤◌, ◌^◌, ℕ, Bool, true, false, IsTrue, List, [], ◌∷◌, length, All, Option, Some, None, IsSome, Ok}
use Rattle.std.specs.Option.{IfSome}
use Rattle.gem_object.specs.texts.Bytes.{Bytes as Text}
use Rattle.st_tree.specs.Trees.{Program}
use Rattle.st_grammar.specs.Grammar.{method}
use Rattle.st_grammar_laws.specs.TreeOf.{tree_of}
use Rattle.gem_object.specs.gem_value.Oid.{oid_number}
use Rattle.gem_object.specs.Edits.{plain_slots}
use Rattle.gem_object.specs.Kinds.{fits}
use Rattle.gem_object.specs.References.{names_in_body}
use Rattle.gem_object.specs.declared.kind.Kind.{Kind}
use Rattle.gem_object.specs.declared.kind.Kind.TheVariants.{Plain as PlainKind, Indexed}
use Rattle.gem_object.specs.declared.body.MethodCode.{MethodCode}
use Rattle.gem_object.specs.declared.body.MethodCode.TheVariants.{Source, Primitive}
use Rattle.gem_object.specs.declared.body.Method.{Method}
use Rattle.gem_object.specs.declared.body.ClassBody.{ClassBody}
use Rattle.gem_object.specs.declared.body.Body.{Body}
use Rattle.gem_object.specs.declared.body.Body.TheVariants.{Plain, Class, Segment, User}
use Rattle.gem_image.specs.Image.{Image, Contents, Objects, objects_in}
use Rattle.gem_image.specs.Rights.{rights_at}
use Rattle.gem_sound.specs.Parts.{class_of, class_at, user_at, dictionary_at}
use Rattle.gem_sound.specs.Kernel.{class_class, transcript_class, KernelClass, kernel_class, KernelBody, kernel_body, has_kind, may_stand}
use Rattle.gem_sound.specs.Inherited.{HasNames}
use Rattle.gem_sound.specs.declared.limits.TheConstants.{NAMES_LIMIT}

-- The rules, in the order in which they are tried for a name.
pub data ImageRule : Type 0 where
  -- I1: no name is 0, and what is referred to is there
  i1 : ImageRule
  -- I2: sources of methods are texts of methods, and primitives stand where they belong
  i2 : ImageRule
  -- I3: classes have the superclasses, kinds and names that they may have
  i3 : ImageRule
  -- I4: the objects of the kernel are there, each with its kind of body
  i4 : ImageRule
  -- I5: class and segment of an object fit it, and so do the objects that a segment or a user names
  i5 : ImageRule

-- the number of a rule, from 1 to 5
abbrev pub rule_number : ImageRule → ℕ
rule_number i1 = 1
rule_number i2 = 2
rule_number i3 = 3
rule_number i4 = 4
rule_number i5 = 5

-- the names that an object refers to
abbrev pub names_in : Contents → List ℕ
names_in object = object.class ∷ object.segment ∷ names_in_body object.body

-- I1: the name isn't 0, and everything to which the object refers is there
pub record HasReferences (objects : Objects) (number : ℕ) (object : Contents) : Type 0 where
  pub no_zero : 0 < number
  pub there : All (λ name. IsSome (objects name)) (names_in object)

-- a source is the text of a method with this selector, of fewer than 2^24 bytes
pub record IsSourceOf (selector source : Text) : Type 0 where
  pub short : length source < 2 ^ 24
  pub program : Program
  pub tree : tree_of method source ≡ Ok program
  pub answers : program.selector ≡ Some selector

-- what a method of a class does: a source of its own selector, or a primitive that belongs there
abbrev pub IsCodeOf : (class : ℕ) (class_side : Bool) → (selector : Text) → MethodCode → Type 0
IsCodeOf class class_side selector (Source source) = IsSourceOf selector source
IsCodeOf class class_side selector (Primitive number) =
    IsTrue (may_stand class class_side selector number)

abbrev pub IsMethodOf : (class : ℕ) (class_side : Bool) → Method → Type 0
IsMethodOf class class_side entry = IsCodeOf class class_side entry.selector entry.code

-- I2: so are the methods of a class, on both sides
pub record HasMethods (number : ℕ) (class : ClassBody) : Type 0 where
  pub instances : All (IsMethodOf number false) class.methods
  pub class_side : All (IsMethodOf number true) class.class_methods

-- whether the instances of a class of this kind have named slots
abbrev pub has_named_slots : Kind → Bool
has_named_slots PlainKind = true
has_named_slots Indexed = true
has_named_slots _ = false

-- a class of the kernel has the superclass and the kind of its row, and no names of its own
pub record IsKernelClass (row : KernelClass) (class : ClassBody) : Type 0 where
  pub superclass : class.superclass ≡ row.superclass
  pub kind : class.kind ≡ row.kind
  pub no_names : class.names ≡ []

-- any other class has the kind of its superclass, which is a class
abbrev pub HasInheritedKind : Objects → ClassBody → Option ℕ → Type 0
HasInheritedKind objects class None = ⊥
HasInheritedKind objects class (Some superclass) =
    (above : ClassBody) × (class_at objects superclass ≡ Some above) × (above.kind ≡ class.kind)

abbrev pub HasPlaceByRow : Objects → ClassBody → Option KernelClass → Type 0
HasPlaceByRow objects class (Some row) = IsKernelClass row class
HasPlaceByRow objects class None = HasInheritedKind objects class class.superclass

-- I3: the superclasses of a class end at Object, its place among them is as it may be, only
-- instances with named slots have names, and with the inherited ones a class has at most 200
pub record HasPlace (objects : Objects) (number : ℕ) (class : ClassBody) : Type 0 where
  pub names : List Text
  pub chain : HasNames objects number names
  pub few_names : length names ≤ NAMES_LIMIT
  pub row : HasPlaceByRow objects class (kernel_class number)
  pub named : 0 < length class.names → IsTrue (has_named_slots class.kind)

-- I4: an object of the kernel has its kind of body; one that isn't there breaks the rule too
abbrev pub HasKernelBody : Option KernelBody → Option Contents → Type 0
HasKernelBody None there = Unit {0}
HasKernelBody (Some kind) None = ⊥
HasKernelBody (Some kind) (Some object) = IsTrue (has_kind kind object.body)

-- I5: a class fits an object of this class name and body. That an instance has enough slots says
-- that it has one for each name of its class.
pub data FitsClass (objects : Objects) : ℕ → Body → Type 0 where
  by_kind : (name : ℕ) (class : ClassBody) (names : List Text) (body : Body)
      → class_at objects name ≡ Some class → IsTrue (fits class.kind body)
      → HasNames objects name names → length names ≤ plain_slots body
      → FitsClass objects name body
  class_object : (class : ClassBody) → IsSome (class_at objects class_class)
      → FitsClass objects class_class (Class class)
  transcript : IsSome (class_at objects transcript_class)
      → FitsClass objects transcript_class (Plain [])

-- I5: a segment's owner is a user; a user's default segment is a segment, and the user's globals
-- are a dictionary
abbrev pub NamesFit : Objects → Body → Type 0
NamesFit objects (Segment rights) = IsSome (user_at objects rights.owner)
NamesFit objects (User user) =
    IsSome (rights_at objects user.default_segment) × IsSome (dictionary_at objects user.globals)
NamesFit objects _ = Unit {0}

pub record IsFitting (objects : Objects) (object : Contents) : Type 0 where
  pub class : FitsClass objects object.class object.body
  pub segment : IsSome (rights_at objects object.segment)
  pub names : NamesFit objects object.body

-- the object of this name keeps the rule
abbrev pub KeepsRule : Objects → ImageRule → (number : ℕ) → Contents → Type 0
KeepsRule objects i1 number object = HasReferences objects number object
KeepsRule objects i2 number object = IfSome (class_of object.body) (HasMethods number)
KeepsRule objects i3 number object = IfSome (class_of object.body) (HasPlace objects number)
KeepsRule objects i4 number object = HasKernelBody (kernel_body number) (Some object)
KeepsRule objects i5 number object = IsFitting objects object

-- the rule is kept at the name, whether an object is there or not
abbrev pub KeepsRuleAt : Objects → ImageRule → (number : ℕ) → Option Contents → Type 0
KeepsRuleAt objects rule number (Some object) = KeepsRule objects rule number object
KeepsRuleAt objects i4 number None = HasKernelBody (kernel_body number) None
KeepsRuleAt objects _ number None = Unit {0}

-- Objects are sound where every rule is kept at every name.
abbrev pub IsSound : Objects → Type 0
IsSound objects = (number : ℕ) (rule : ImageRule) → KeepsRuleAt objects rule number (objects number)

-- The rule is the first that is broken, at the lowest name where one is.
pub record BreaksFirst (objects : Objects) (number : ℕ) (rule : ImageRule) : Type 0 where
  pub lower : (other : ℕ) → other < number → (any : ImageRule)
      → KeepsRuleAt objects any other (objects other)
  pub before : (any : ImageRule) → rule_number any < rule_number rule
      → KeepsRuleAt objects any number (objects number)
  pub broken : KeepsRuleAt objects rule number (objects number) → ⊥

-- Sound objects among which a user may work who draws names of this serial, the next one with this
-- counter: the user is there, and none of those names is taken.
pub record IsSoundFor (objects : Objects) (user serial next : ℕ) : Type 0 where
  pub sound : IsSound objects
  pub user_there : IsSome (user_at objects user)
  pub serial_bound : serial < 2 ^ 24
  pub some_name : 0 < next
  pub next_bound : next ≤ 2 ^ 24
  pub free : (counter : ℕ) → next ≤ counter → counter < 2 ^ 24
      → objects (oid_number serial counter) ≡ None

-- a sound image
abbrev pub IsSoundImage : Image → Type 0
IsSoundImage image = IsSound (objects_in image)

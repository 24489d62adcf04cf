-- How worked rows are said: what a rule comes to, and the objects in worked rows.
use Rattle.std.specs.Prelude.{◌≡◌, ℕ, pos, neg_ℤ, true, false, nat_eq, List, [], ◌∷◌, Option, Some, None, codes}
use Rattle.gem_object.specs.texts.Bytes.{Bytes as Text}
use Rattle.gem_object.specs.seg_rights.declared.rights.Rights.{Rights}
use Rattle.gem_object.specs.declared.value.Value.{Value}
use Rattle.gem_object.specs.declared.value.Value.TheVariants.{Nil, False, True, Int}
use Rattle.gem_object.specs.declared.kind.Kind.{Kind}
use Rattle.gem_object.specs.declared.kind.Kind.TheVariants as kind
use Rattle.gem_object.specs.declared.body.ClassBody.{ClassBody}
use Rattle.gem_object.specs.declared.body.Body.TheVariants.{Plain, Bytes, Class, Segment, User}
use Rattle.object_programs.specs.gem_image.Image.{Contents}
use Rattle.object_programs.specs.gem_world.World.{Setting, World, shown}
use Rattle.object_programs.specs.gem_world.Access.{Access, is_allowed, accessed}
use Rattle.object_programs.specs.Fixed.{ClassKind, Fixed, fixed_by}
use Rattle.object_programs.specs.Run.{Run, Ending, gives, fails, State, perform}
use Rattle.object_programs.specs.declared.fault.Fault.{Fault}
use Rattle.prim_rules.specs.declared.answer.PrimitiveAnswer.{PrimitiveAnswer}
use Rattle.prim_rules.specs.declared.answer.PrimitiveAnswer.TheVariants.{Gives}
use Rattle.prim_rules.specs.FirstRules.{Rule}
use Rattle.prim_rules.specs.Printing.{print_text}

-- integers from naturals: a number, and minus a number
abbrev pub int : ℕ → Value
int number = Int (pos number)

abbrev pub minus : ℕ → Value
minus number = Int (neg_ℤ (pos number))

-- Here blocks hold nothing.
abbrev pub NoBlocks : Type 0
NoBlocks = Unit {0}

-- in every state the program ends so, and changes nothing
abbrev pub AlwaysEnds : {A : Type 0} → Run NoBlocks A → Ending A → Type 0
AlwaysEnds program end = (setting : Setting) (state : State NoBlocks) →
    perform program setting state ≡ record { end = end; state = state }

-- in every state the rule answers this value, or ends in this error, and changes nothing
abbrev pub Answers : Rule NoBlocks → Value → List Value → Value → Type 0
Answers rule receiver arguments value =
    AlwaysEnds (rule receiver arguments) (gives (Gives value))

abbrev pub Refuses : Rule NoBlocks → Value → List Value → Fault → Type 0
Refuses rule receiver arguments fault = AlwaysEnds (rule receiver arguments) (fails fault)

-- in every state the value prints so
abbrev pub Prints : Value → Text → Type 0
Prints value text = AlwaysEnds (print_text value) (gives text)

-- what a rule comes to in a state, and the print text of a value
abbrev pub ends : Rule NoBlocks → Value → List Value → Setting → State NoBlocks
    → Ending PrimitiveAnswer
ends rule receiver arguments setting state =
    (perform (rule receiver arguments) setting state).end

abbrev pub prints : Value → Setting → State NoBlocks → Ending Text
prints value setting state = (perform (print_text value) setting state).end

-- the state after an access
abbrev pub after : Access → ℕ → Setting → State NoBlocks → State NoBlocks
after access name setting state =
    record state { world = accessed access name setting state.world }

-- the user may read or write the object of this name, and this is the object
pub record MayAccess (access : Access) (name : ℕ) (object : Contents) (setting : Setting)
    (world : World) : Type 0 where
  pub allowed : is_allowed access name setting world ≡ true
  pub there : shown name setting world ≡ Some object

-- a String and an Array in this segment
abbrev pub string_in : (segment : ℕ) → Text → Contents
string_in segment text = record { class = 15; segment = segment; body = Bytes text }

abbrev pub array_in : (segment : ℕ) → List Value → Contents
array_in segment elements = record { class = 13; segment = segment; body = Plain elements }

-- a class of this name, superclass and kind
abbrev pub class_of : (name : Text) → Option ℕ → Kind → ClassBody
class_of name superclass kind = record {
  name = name;
  superclass = superclass;
  kind = kind;
  names = [];
  methods = [];
  class_methods = [];
}

-- a class of this kind without a superclass, one of this name, and one under another
abbrev pub class_in : (segment : ℕ) → Kind → Contents
class_in segment kind =
    record { class = 2; segment = segment; body = Class (class_of (codes "Example") None kind) }

abbrev pub class_called : (segment : ℕ) → (name : Text) → Contents
class_called segment name =
    record { class = 2; segment = segment; body = Class (class_of name None kind.Indexed) }

abbrev pub class_under : (superclass segment : ℕ) → Contents
class_under superclass segment = record {
  class = 2;
  segment = segment;
  body = Class (class_of (codes "Example") (Some superclass) kind.None);
}

-- a segment of these rights, which lies in itself
abbrev pub segment_of : (name : ℕ) → Rights Text → Contents
segment_of name rights = record { class = 23; segment = name; body = Segment rights }

-- a user's profile in this segment
abbrev pub profile_in : (segment : ℕ) → Contents
profile_in segment = record {
  class = 24;
  segment = segment;
  body = User (record {
    name = codes "Ann";
    groups = [];
    default_segment = segment;
    globals = 33;
  });
}

-- An object of a class that names one slot: that slot holds nil, and the elements behind it are
-- true and false.
abbrev pub named_class : Fixed
named_class = record {
  class = 2;
  kind = ClassKind;
  as_class = Some (record { superclass = None; kind = kind.Indexed; names = codes "top" ∷ [] });
}

abbrev pub pair_in : (segment class : ℕ) → Contents
pair_in segment class = record {
  class = class;
  segment = segment;
  body = Plain (Nil ∷ True ∷ False ∷ []);
}

-- the user may read or write that object, and its class is another object
pub record HasPair (access : Access) (name segment class : ℕ) (setting : Setting) (world : World)
    : Type 0 where
  pub may : MayAccess access name (pair_in segment class) setting world
  pub known : fixed_by setting world class ≡ Some named_class
  pub other : nat_eq class name ≡ false

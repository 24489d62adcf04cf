-- Look-up: which method answers a message. It goes up the superclasses, and each class that it
-- consults is read.
use Rattle.std.specs.Prelude.{ℕ, zero, suc, Bool, true, false, cond, List, [], ◌∷◌, Option, None, Some, option_and_then, bytes_eq}
use Rattle.gem_object.specs.texts.Bytes.{Bytes as Text}
use Rattle.gem_object.specs.declared.value.Value.{Value}
use Rattle.gem_object.specs.declared.value.Value.TheVariants.{Ref}
use Rattle.gem_object.specs.declared.body.MethodCode.{MethodCode}
use Rattle.gem_object.specs.declared.body.Method.{Method}
use Rattle.gem_object.specs.declared.body.ClassBody.{ClassBody}
use Rattle.gem_object.specs.declared.body.Body.{Body}
use Rattle.gem_object.specs.declared.body.Body.TheVariants as body
use Rattle.object_programs.specs.gem_sound.Kernel.{class_class}
use Rattle.object_programs.specs.Fixed.{Fixed}
use Rattle.object_programs.specs.Guard.{chain_limit}
use Rattle.object_programs.specs.Atom.{Kind}
use Rattle.object_programs.specs.Run.{Run, give, fail, atom, and_then}
use Rattle.object_programs.specs.Programs.{read, part_of}
use Rattle.object_programs.specs.declared.fault.Fault.TheVariants as fault
use Rattle.tree_meaning.specs.Place.{Frame, MadeBlock}
use Rattle.object_programs.specs.gem_sound.Parts.{class_of}
use Rattle.prim_rules.specs.Parts.{class_of_plain}
use Rattle.gem_language.specs.declared.found.Found.{Found}

-- What a look-up comes to: the method, where there is one.
abbrev pub FindingRun : Type 1
FindingRun = Run MadeBlock (Option Found)

-- the methods of a class on one of its sides
abbrev pub methods_on : (class_side : Bool) → ClassBody → List Method
methods_on false class = class.methods
methods_on true class = class.class_methods

-- what the method with this selector does, where there is one
abbrev pub code_of : Text → List Method → Option MethodCode
code_of selector [] = None
code_of selector (method ∷ rest) =
    cond (bytes_eq method.selector selector) (Some method.code) (code_of selector rest)

-- the method that a class holds on this side, and else what is found further on
abbrev pub found_or : (holder : ℕ) → (class_side : Bool) → Option MethodCode → FindingRun
    → FindingRun
found_or holder class_side (Some code) further =
    give (Some (record { code = code; holder = holder; class_side = class_side }))
found_or holder class_side None further = further

-- what is found from the superclass on, or past the last class
abbrev pub from_superclass : Option ℕ → (above : ℕ → FindingRun) → (past : FindingRun) → FindingRun
from_superclass None above past = past
from_superclass (Some superclass) above past = above superclass

-- what is found at a class that was read, or from its superclass on
abbrev pub found_from : (class_side : Bool) → Text → (name : ℕ) → Option ClassBody
    → (above : ℕ → FindingRun) → (past : FindingRun) → FindingRun
found_from class_side selector name None above past = past
found_from class_side selector name (Some class) above past =
    found_or name class_side (code_of selector (methods_on class_side class))
    (from_superclass class.superclass above past)

-- The classes from this one up, on one side: each is read. At most so many are gone through, which
-- is enough where objects are sound.
abbrev pub up_within : ℕ → (class_side : Bool) → Text → (past : FindingRun) → (name : ℕ)
    → FindingRun
up_within zero class_side selector past name = fail (fault.NotUnderstood selector)
up_within (suc more) class_side selector past name =
    and_then (read name) (λ object.
    found_from class_side selector name (class_of object.body)
    (up_within more class_side selector past) past)

unfoldable pub up_classes : (class_side : Bool) → Text → (past : FindingRun) → (name : ℕ)
    → FindingRun
up_classes class_side selector past name =
    up_within (suc chain_limit) class_side selector past name

-- past the last class side the look-up goes on at the instance side of the class Class; past the
-- last instance side nothing is found
abbrev pub past_last : (class_side : Bool) → Text → FindingRun
past_last false selector = give None
past_last true selector = up_classes false selector (give None) class_class

-- Where a look-up begins: at this class on this side, or past the last one.
pub record Start : Type 0 where
  pub class : Option ℕ
  pub class_side : Bool

-- what is found from there on
abbrev pub found_at : Start → Text → FindingRun
found_at start selector = from_superclass start.class
    (up_classes start.class_side selector (past_last start.class_side selector))
    (past_last start.class_side selector)

-- Where it begins for a receiver: for a class object at its own class side, for any other object at
-- its class. A reference is read.
abbrev pub start_of_object : (name class : ℕ) → Body → Start
start_of_object name class (body.Class _) = record { class = Some name; class_side = true }
start_of_object name class _ = record { class = Some class; class_side = false }

abbrev pub start_of_receiver : Value → Run MadeBlock Start
start_of_receiver (Ref name) =
    and_then (read name) (λ object. give (start_of_object name object.class object.body))
start_of_receiver value = give (record { class = class_of_plain value; class_side = false })

-- Where it begins for a message to `super`: at the superclass of the class that holds the method,
-- on the side on which the method stands. The superclass is known without an access.
abbrev pub superclass_of : Option Fixed → Option ℕ
superclass_of found = option_and_then (λ part. part.superclass) (part_of found)

abbrev pub start_above : Frame → Run MadeBlock Start
start_above frame = and_then (atom (Kind frame.holder)) (λ found.
    give (record { class = superclass_of found; class_side = frame.class_side }))

-- Where it begins: a receiver that is a reference is read for a message to `super` too.
abbrev pub start_of : (to_super : Bool) → Frame → (receiver : Value) → Run MadeBlock Start
start_of false frame receiver = start_of_receiver receiver
start_of true frame receiver =
    and_then (start_of_receiver receiver) (λ own. start_above frame)

-- the method that answers a message with this selector to the receiver
unfoldable pub find_method : (to_super : Bool) → Frame → (receiver : Value) → Text → FindingRun
find_method to_super frame receiver selector =
    and_then (start_of to_super frame receiver) (λ start. found_at start selector)

-- What a look-up finds, as relations over the objects that are seen.
use Rattle.std.specs.Prelude.{◌≡◌, ℕ, Bool, true, false, Option, None, Some, option_and_then}
use Rattle.gem_object.specs.texts.Bytes.{Bytes as Text}
use Rattle.gem_object.specs.declared.value.Value.{Value}
use Rattle.gem_object.specs.declared.value.Value.TheVariants.{Ref}
use Rattle.gem_object.specs.declared.body.MethodCode.{MethodCode}
use Rattle.gem_object.specs.declared.body.ClassBody.{ClassBody}
use Rattle.object_programs.specs.gem_image.Image.{Contents, Objects}
use Rattle.object_programs.specs.gem_sound.Kernel.{class_class}
use Rattle.object_programs.specs.gem_sound.Parts.{class_at}
use Rattle.tree_meaning.specs.Place.{Frame}
use Rattle.prim_rules.specs.Parts.{class_of_plain}
use Rattle.gem_language.specs.LookUp.{methods_on, code_of}
use Rattle.gem_language.specs.declared.found.Found.{Found}

-- From this class on, on this side, this is found for the selector. No class stands for the place
-- past the last superclass.
pub data Finds (objects : Objects) (selector : Text) : (class_side : Bool) → (class : Option ℕ)
    → Option Found → Type 0 where
  -- the class itself has a method
  in_class : (class_side : Bool) (name : ℕ) (class : ClassBody) (code : MethodCode)
      → class_at objects name ≡ Some class
      → code_of selector (methods_on class_side class) ≡ Some code
      → Finds objects selector class_side (Some name)
      (Some (record { code = code; holder = name; class_side = class_side }))
  -- it has none: what its superclass finds
  above : (class_side : Bool) (name : ℕ) (class : ClassBody) (found : Option Found)
      → class_at objects name ≡ Some class
      → code_of selector (methods_on class_side class) ≡ None
      → Finds objects selector class_side class.superclass found
      → Finds objects selector class_side (Some name) found
  -- what is no class has no methods and no superclass; no sound image comes there
  no_class : (class_side : Bool) (name : ℕ) (found : Option Found)
      → class_at objects name ≡ None → Finds objects selector class_side None found
      → Finds objects selector class_side (Some name) found
  -- past the last class side it goes on at the instance side of the class Class
  past_class_sides : (found : Option Found)
      → Finds objects selector false (Some class_class) found
      → Finds objects selector true None found
  -- past the last class nothing is found
  past_all : Finds objects selector false None None

-- the superclass of the class of this name
abbrev pub superclass_at : Objects → ℕ → Option ℕ
superclass_at objects name =
    option_and_then (λ class. class.superclass) (class_at objects name)

-- Where the look-up of a message to this receiver begins, in an activation with this frame.
pub data BeginsAt (objects : Objects) (frame : Frame) : (to_super : Bool) → (receiver : Value)
    → (class_side : Bool) → (class : Option ℕ) → Type 0 where
  -- a class object: at its own class side
  at_class_side : (name : ℕ) (class : ClassBody) → class_at objects name ≡ Some class
      → BeginsAt objects frame false (Ref name) true (Some name)
  -- another object: at its class
  at_class : (name : ℕ) (object : Contents) → objects name ≡ Some object
      → class_at objects name ≡ None
      → BeginsAt objects frame false (Ref name) false (Some object.class)
  -- any other value: at the class of the kernel for it
  at_kernel_class : (receiver : Value) (class : ℕ) → class_of_plain receiver ≡ Some class
      → BeginsAt objects frame false receiver false (Some class)
  -- a message to `super`: at the superclass of the class that holds the method, on its side
  at_superclass : (receiver : Value)
      → BeginsAt objects frame true receiver frame.class_side
      (superclass_at objects frame.holder)

-- This is found for a message.
pub record FindsFor (objects : Objects) (frame : Frame) (to_super : Bool) (receiver : Value)
    (selector : Text) (found : Option Found) : Type 0 where
  pub class_side : Bool
  pub class : Option ℕ
  pub begins : BeginsAt objects frame to_super receiver class_side class
  pub finds : Finds objects selector class_side class found

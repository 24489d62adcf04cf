-- What a look-up finds, where all classes on its way can be read without a change of anything.
use Rattle.std.specs.Prelude.{◌≡◌, ℕ, suc, Bool, true, false, Option, Some, None}
use Rattle.gem_object.specs.texts.Bytes.{Bytes as Text}
use Rattle.gem_object.specs.declared.body.MethodCode.{MethodCode}
use Rattle.gem_object.specs.declared.body.ClassBody.{ClassBody}
use Rattle.running_objects.specs.gem_world.World.{Setting, World}
use Rattle.running_objects.specs.gem_sound.Kernel.{class_class}
use Rattle.running_objects.specs.object_programs.Guard.{chain_limit}
use Rattle.gem_language.specs.declared.found.Found.{Found}
use Rattle.gem_language.specs.LookUp.{Start, methods_on, code_of}
use Rattle.look_up_cache.specs.Lasting.{Lasting, class_in}
use Rattle.look_up_cache.specs.Calm.{Calm}

-- From the class of this name up, where at most so many are gone through: what is found, and what
-- holds of it where it is found past the last class.
pub data Up (class_side : Bool) (selector : Text) (past : Option Found → Type 0)
    (setting : Setting) (world : World) : ℕ → ℕ → Option Found → Type 0 where
  no_class : (more name : ℕ) (found : Option Found) (part : Lasting)
      → Calm name part setting world → class_in part ≡ None → past found
      → Up class_side selector past setting world (suc more) name found
  holds : (more name : ℕ) (found : Option Found) (part : Lasting) (class : ClassBody)
      (code : MethodCode) → Calm name part setting world → class_in part ≡ Some class
      → code_of selector (methods_on class_side class) ≡ Some code
      → Some (record { code = code; holder = name; class_side = class_side }) ≡ found
      → Up class_side selector past setting world (suc more) name found
  last : (more name : ℕ) (found : Option Found) (part : Lasting) (class : ClassBody)
      → Calm name part setting world → class_in part ≡ Some class
      → code_of selector (methods_on class_side class) ≡ None → class.superclass ≡ None
      → past found → Up class_side selector past setting world (suc more) name found
  above : (more name : ℕ) (found : Option Found) (part : Lasting) (class : ClassBody)
      (superclass : ℕ) → Calm name part setting world → class_in part ≡ Some class
      → code_of selector (methods_on class_side class) ≡ None
      → class.superclass ≡ Some superclass
      → Up class_side selector past setting world more superclass found
      → Up class_side selector past setting world (suc more) name found

-- nothing is found past the last class
abbrev pub IsNothing : Option Found → Type 0
IsNothing found = found ≡ None

-- past the last class of a side
abbrev pub Past : (class_side : Bool) → Text → Setting → World → Option Found → Type 0
Past false selector setting world found = IsNothing found
Past true selector setting world found =
    Up false selector IsNothing setting world (suc chain_limit) class_class found

-- from a class, or past the last one
abbrev pub From : Option ℕ → (class_side : Bool) → Text → Setting → World → Option Found → Type 0
From None class_side selector setting world found = Past class_side selector setting world found
From (Some class) class_side selector setting world found =
    Up class_side selector (Past class_side selector setting world) setting world
    (suc chain_limit) class found

-- A look-up with this selector that begins there finds this, and changes nothing.
pub record Finds (start : Start) (selector : Text) (found : Option Found) (setting : Setting)
    (world : World) : Type 0 where
  pub from : From start.class start.class_side selector setting world found

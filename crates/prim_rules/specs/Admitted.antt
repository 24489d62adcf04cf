-- What laws of rules speak of: objects that the user may reach, and those that may be made beside
-- the kernel.
use Rattle.std.specs.Prelude.{◌≡◌, ℕ, ◌+◌, ◌^◌, Bool, true, List, [], Option, None, Some}
use Rattle.gem_object.specs.declared.body.Body.{Body}
use Rattle.object_programs.specs.gem_image.Image.{Contents}
use Rattle.object_programs.specs.gem_world.World.{Setting, shown}
use Rattle.object_programs.specs.gem_world.Access.{Access, is_allowed}
use Rattle.object_programs.specs.gem_sound.Kernel.{class_class, transcript_class, KernelClass, kernel_class, KernelBody, a_class, a_dictionary, a_segment, a_user, no_slots, kernel_body}
use Rattle.object_programs.specs.Fixed.{BodyKind, PlainKind, DictKind, ClassKind, SegmentKind, UserKind, Fixed}
use Rattle.object_programs.specs.Guard.{with_parts, all_fit}
use Rattle.object_programs.specs.Run.{State}

-- This access to the object of this name is allowed, and the object is there.
pub record Admits (access : Access) (name : ℕ) (object : Contents) (setting : Setting)
    (state : State (Unit {0})) : Type 0 where
  pub allowed : is_allowed access name setting state.world ≡ true
  pub there : shown name setting state.world ≡ Some object

-- an object of this class in this segment
abbrev pub an_object : (class segment : ℕ) → Body → Contents
an_object class segment body = record { class = class; segment = segment; body = body }

-- The fixed parts of the kernel's objects, where nothing else is there.
abbrev pub class_fixed : KernelClass → Fixed
class_fixed row = record {
  class = class_class;
  kind = ClassKind;
  as_class = Some (record { superclass = row.superclass; kind = row.kind; names = [] });
}

abbrev pub plain_fixed : (class : ℕ) → BodyKind → Fixed
plain_fixed class kind = record { class = class; kind = kind; as_class = None }

-- of those that aren't classes
abbrev pub other_fixed : KernelBody → Option Fixed
other_fixed a_class = None
other_fixed a_dictionary = Some (plain_fixed 18 DictKind)
other_fixed a_segment = Some (plain_fixed 23 SegmentKind)
other_fixed a_user = Some (plain_fixed 24 UserKind)
other_fixed no_slots = Some (plain_fixed transcript_class PlainKind)

abbrev pub kernel_fixed : Option KernelClass → Option KernelBody → Option Fixed
kernel_fixed (Some row) other = Some (class_fixed row)
kernel_fixed None None = None
kernel_fixed None (Some other) = other_fixed other

unfoldable pub kernel_parts : ℕ → Option Fixed
kernel_parts name = kernel_fixed (kernel_class name) (kernel_body name)

-- whether these objects may be made together, from the first name of a session with the serial 1
-- on, where nothing but the kernel is there
abbrev pub first_name : ℕ
first_name = 2 ^ 24 + 1

unfoldable pub fit_beside_kernel : List Contents → Bool
fit_beside_kernel objects = all_fit (with_parts first_name objects kernel_parts) first_name objects

-- What of an object the guard sees, and how many names a class has.
use Rattle.std.specs.Prelude.{ℕ, ◌-◌, Bool, cond, nat_le, length, List, Option, None, map, slice_get}
use Rattle.gem_object.specs.texts.Bytes.{Bytes as Text}
use Rattle.gem_object.specs.declared.body.ClassBody.{ClassBody}
use Rattle.gem_object.specs.declared.object.Object.{Object}
use Rattle.object_programs.specs.gem_image.Image.{contents_of}
use Rattle.object_programs.specs.Fixed.{ClassPart, Fixed, fixed_of}
use Rattle.object_programs.specs.Guard.{Parts, with_parts}

-- the fixed part of an object
abbrev pub fixed_part : Object → Fixed
fixed_part object = fixed_of (contents_of object)

-- what of a class is fixed
abbrev pub part_of_class : ClassBody → ClassPart
part_of_class class =
    record { superclass = class.superclass; kind = class.kind; names = class.names }

-- whether so many slots are enough for these names
abbrev pub has_room : (slots : ℕ) → List Text → Bool
has_room slots names = nat_le (length names) slots

-- the fixed parts with those of these objects, the first of which has this name and the next ones
-- the names after it
abbrev pub with_objects : ℕ → List Object → Parts → Parts
with_objects first objects parts = with_parts first (map contents_of objects) parts

-- the new object of this name, where the first has this name
abbrev pub new_object : ℕ → List Object → ℕ → Option Object
new_object first objects name =
    cond (nat_le first name) (slice_get objects (name - first)) None

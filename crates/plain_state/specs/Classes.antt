-- Whether an object may have so many slots.
use Rattle.std.specs.Prelude.{ℕ, ◌+◌, Bool, true, false, not, ◌&&◌, ◌||◌, nat_le, nat_lt, nat_eq, length, [], Option, Some, None}
use Rattle.gem_object.specs.Kinds as kinds
use Rattle.gem_object.specs.declared.kind.Kind.{Kind}
use Rattle.gem_object.specs.declared.value.Value.{Value}
use Rattle.gem_object.specs.declared.body.Body.{Body}
use Rattle.gem_object.specs.declared.body.Body.TheVariants.{Plain, Dict}
use Rattle.gem_image.specs.Image.{Contents}
use Rattle.object_programs.specs.Fixed.{ClassPart}
use Rattle.object_programs.specs.Guard.{Parts, holds_of, names_at}
use Rattle.object_programs.specs.Programs.{part_of}
use Rattle.object_programs.specs.Spelled.{is_storable}
use Rattle.running_objects.specs.Fitting.{is_known_value, can_count}
use Rattle.object_guard.specs.Parts.{has_room}

-- whether instances of classes of this kind have slots
abbrev pub takes_slots : Kind → Bool
takes_slots kind = kinds.fits kind (Plain [])

-- whether the class of this name may have an object with so many slots: as many as it has names at
-- least, or none in TranscriptStream
abbrev pub accepts_slots_by : Parts → (class count : ℕ) → Option ClassPart → Bool
accepts_slots_by parts class count None = false
accepts_slots_by parts class count (Some part) =
    (takes_slots part.kind && holds_of (has_room count) (names_at parts class))
    || (nat_eq count 0 && nat_eq class 26)

abbrev pub accepts_slots : Parts → (class count : ℕ) → Bool
accepts_slots parts class count = accepts_slots_by parts class count (part_of (parts class))

-- whether a name is that of an object of the kernel
abbrev pub is_in_kernel : ℕ → Bool
is_in_kernel name = nat_lt 0 name && nat_le name 35

-- whether an object with so many slots may get one more, with this value
abbrev pub may_insert : Parts → (name class count : ℕ) → Value → Bool
may_insert parts name class count value = is_known_value parts value
    && (accepts_slots parts class (count + 1)
    && ((nat_lt 0 count || not (is_in_kernel name))
    && (can_count (count + 1) && is_storable value)))

-- the class and the number of slots of an object that has slots
abbrev pub slots_of : (class : ℕ) → Body → Option (ℕ × ℕ)
slots_of class (Plain values) = Some (class, length values)
slots_of class _ = None

abbrev pub slots_in : Option Contents → Option (ℕ × ℕ)
slots_in None = None
slots_in (Some object) = slots_of object.class object.body

-- whether a body is a dictionary
abbrev pub has_pairs : Body → Bool
has_pairs (Dict pairs) = true
has_pairs _ = false

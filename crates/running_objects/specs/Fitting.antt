-- What of a new value the guard of an object tests.
use Rattle.std.specs.Prelude.{ℕ, ◌^◌, Bool, true, ◌&&◌, nat_lt}
use Rattle.gem_object.specs.declared.value.Value.{Value}
use Rattle.gem_object.specs.declared.value.Value.TheVariants.{Ref}
use Rattle.object_programs.specs.Guard.{Parts, is_known}
use Rattle.object_programs.specs.Spelled.{is_storable}

-- whether the object is there to which a value refers, if it refers to one
abbrev pub is_known_value : Parts → Value → Bool
is_known_value parts (Ref name) = is_known parts name
is_known_value parts _ = true

-- whether a value may come into a slot
abbrev pub may_enter : Parts → Value → Bool
may_enter parts value = is_known_value parts value && is_storable value

-- whether so many values can be counted where they are stored
abbrev pub can_count : ℕ → Bool
can_count count = nat_lt count (2 ^ 32)

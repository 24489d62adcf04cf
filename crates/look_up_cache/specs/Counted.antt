-- How many slots classes name, as long as they are there.
use Rattle.std.specs.Prelude.{◌≡◌, ◌+◌, ℕ, zero, suc, length, option_map, Some, None}
use Rattle.gem_object.specs.declared.body.ClassBody.{ClassBody}
use Rattle.running_objects.specs.gem_world.World.{Setting, World, shown}
use Rattle.look_up_cache.specs.Lasting.{Lasting, lasting_of, class_in}

-- The object of this name is there, and this of it lasts.
abbrev pub Stays : ℕ → Lasting → Setting → World → Type 0
Stays name part setting world = option_map lasting_of (shown name setting world) ≡ Some part

-- From the class of this name up, where at most so many are gone through: how many names they add.
pub data Counted (setting : Setting) (world : World) : ℕ → ℕ → ℕ → Type 0 where
  none_left : (name count : ℕ) → 0 ≡ count → Counted setting world zero name count
  no_class : (more name count : ℕ) (part : Lasting) → Stays name part setting world
      → class_in part ≡ None → 0 ≡ count → Counted setting world (suc more) name count
  last : (more name count : ℕ) (part : Lasting) (class : ClassBody)
      → Stays name part setting world → class_in part ≡ Some class → class.superclass ≡ None
      → length class.names ≡ count → Counted setting world (suc more) name count
  above : (more name count : ℕ) (part : Lasting) (class : ClassBody) (superclass rest : ℕ)
      → Stays name part setting world → class_in part ≡ Some class
      → class.superclass ≡ Some superclass → Counted setting world more superclass rest
      → length class.names + rest ≡ count → Counted setting world (suc more) name count

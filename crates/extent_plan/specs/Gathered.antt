-- What was gathered of a leaf.
use Rattle.std.specs.Prelude.{◌≡◌, ℕ, ◌+◌, max, List, ◌++◌, length, Option, None, Some}
use Rattle.std.specs.List.{flat_map}
use Rattle.gem_object.specs.declared.object.Object.{Object}
use Rattle.gem_object.specs.gem_value.Oid.{serial_of}
use Rattle.body_codec.specs.Spelled.{spelled_changed}
use Rattle.extent_pages.specs.Extent.{largest_serial}
use Rattle.extent_plan.specs.declared.gather.Gathered.{Gathered}
use Rattle.extent_plan.specs.Leaves.{plain}

-- one object more was gathered
pub record AddsOne (name : ℕ) (object : Object) (old new : Gathered) : Type 0 where
  pub count : new.count ≡ old.count + 1
  pub serial : new.serial ≡ max old.serial (serial_of name)
  pub items : new.items.items ≡ old.items.items ++ spelled_changed (name, plain object)

-- what stands at a name was gathered
abbrev pub Adds : ℕ → Option Object → Gathered → Gathered → Type 0
Adds name None old new = new ≡ old
Adds name (Some object) old new = AddsOne name object old new

-- These objects were gathered.
pub record AreGathered (objects : List (ℕ × Object)) (gathered : Gathered) : Type 0 where
  pub count : gathered.count ≡ length objects
  pub serial : gathered.serial ≡ largest_serial objects
  pub items : gathered.items.items ≡ flat_map spelled_changed objects

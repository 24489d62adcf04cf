-- Objects that can be read, or written, without a change of anything.
use Rattle.std.specs.Prelude.{◌≡◌, ℕ, true, false, Some, Option, is_some, option_map}
use Rattle.std.specs.FinMap.{get}
use Rattle.gem_object.specs.declared.value.Value.{Value}
use Rattle.gem_object.specs.declared.body.Body.{Body}
use Rattle.gem_object.specs.declared.body.Body.TheVariants.{Class}
use Rattle.running_objects.specs.gem_world.World.{Setting, World, shown}
use Rattle.running_objects.specs.gem_world.Access.{a_read, a_write, is_allowed}
use Rattle.gem_language.specs.prim_rules.Parts.{class_of_plain}
use Rattle.gem_language.specs.LookUp.{Start}
use Rattle.look_up_cache.specs.Lasting.{Lasting, lasting_of, is_settled}

-- The object of this name is there, and this of it lasts; the user may read it, and a read touches
-- nothing that isn't touched yet.
pub record Calm (name : ℕ) (part : Lasting) (setting : Setting) (world : World) : Type 0 where
  pub there : option_map lasting_of (shown name setting world) ≡ Some part
  pub allowed : is_allowed a_read name setting world ≡ true
  pub own : is_settled name setting world ≡ true
  pub segment : is_settled part.segment setting world ≡ true
  pub user : is_settled setting.user setting world ≡ true

-- The user may write the object of this name, and it is among the changes, where a write puts it as
-- it stands. So where a read of it changes nothing, a write doesn't either.
pub record Writable (name : ℕ) (setting : Setting) (world : World) : Type 0 where
  pub allowed : is_allowed a_write name setting world ≡ true
  pub changed : is_some (get world.changes name) ≡ true

-- where look-ups for this object begin
abbrev pub start_by : ℕ → (class : ℕ) → Option Body → Start
start_by name class (Some (Class _)) = record { class = Some name; class_side = true }
start_by name class _ = record { class = Some class; class_side = false }

-- the same for a value that is no reference
abbrev pub start_in : ℕ → Start
start_in class = record { class = Some class; class_side = false }

abbrev pub plain_start : Value → Option Start
plain_start value = option_map start_in (class_of_plain value)

-- Look-ups for the object of this name begin there, and this is told without a change.
pub record Begins (name : ℕ) (start : Start) (setting : Setting) (world : World) : Type 0 where
  pub part : Lasting
  pub calm : Calm name part setting world
  pub at : start_by name part.class part.body ≡ start

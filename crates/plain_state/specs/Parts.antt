-- What becomes of a state by touches and accesses.
use Rattle.std.specs.Prelude.{◌≡◌, ℕ, cond, is_some}
use Rattle.gem_object.specs.declared.value.Value.{Value}
use Rattle.gem_object.specs.declared.value.Value.TheVariants.{Ref}
use Rattle.gem_image.specs.Image.{Contents}
use Rattle.gem_world.specs.World.{World, touch, with_name}
use Rattle.gem_world.specs.Access.{a_write, with_touches, after_allowed}
use Rattle.running_objects.specs.Seen.{Seen, object_at}
use Rattle.plain_state.specs.Overlay.{changed}

-- with another world
abbrev pub in_world : (World → World) → Seen → Seen
in_world change seen = record seen { world = change seen.world }

-- after a touch of the name, after one of a name without an object, and after the touches of an
-- access
abbrev pub touched : ℕ → Seen → Seen
touched name seen = in_world (touch name seen.setting) seen

abbrev pub missed : ℕ → Seen → Seen
missed name seen =
    in_world (λ world. record world { touched = with_name world.touched name }) seen

abbrev pub asked : ℕ → Seen → Seen
asked name seen = in_world (with_touches name seen.setting) seen

-- after the object of this name, if there is one, was put among those that are written
abbrev pub held : ℕ → Seen → Seen
held name seen = in_world (after_allowed a_write name (object_at name seen)) seen

-- Nothing differs but what was touched.
pub record SameObjects (before after : Seen) : Type 0 where
  pub setting : after.setting ≡ before.setting
  pub next : after.world.next ≡ before.world.next
  pub changes : after.world.changes ≡ before.world.changes
  pub updates : after.world.updates ≡ before.world.updates
  pub budget : after.budget ≡ before.budget

-- after the name to which a value refers was touched, where there is no object
abbrev pub missed_value : Value → Seen → Seen
missed_value (Ref name) seen = cond (is_some (object_at name seen)) seen (missed name seen)
missed_value _ seen = seen

-- with a written object of this name edited, where there is one
abbrev pub edited_in : ℕ → (Contents → Contents) → Seen → Seen
edited_in name edit seen =
    in_world (λ world. record world { changes = changed name edit world.changes }) seen

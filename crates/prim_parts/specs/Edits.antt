-- What a primitive does to the body of an object that was written.
use Rattle.std.specs.Prelude.{◌≡◌, ℕ, Some, Result}
use Rattle.gem_object.specs.declared.body.Body.{Body}
use Rattle.gem_update.specs.declared.update.Update.{Update}
use Rattle.gem_sound.specs.gem_image.Image.{Contents}
use Rattle.object_programs.specs.Programs.{replace_body, update}
use Rattle.object_programs.specs.declared.fault.Fault.{Fault}
use Rattle.running_objects.specs.Seen.{Seen, object_at}
use Rattle.running_objects.specs.declared.stop.Stop.{Stop}
use Rattle.prim_parts.specs.Does.{Does}

-- A call put the edited body in place of that of the object of this name, which takes so much more
-- space by what the body was.
abbrev pub Replaces : (growth : Body → ℕ) → ℕ → (Body → Body) → Seen → Result (Unit {0}) Stop
    → Seen → Type 0
Replaces growth name edit before result after = (object : Contents)
    → object_at name before ≡ Some object
    → Does (replace_body (growth object.body) name object (edit object.body)) before result after

-- A call updated the object of this name, which takes so much more space; it is refused by this
-- error.
abbrev pub Updates : Fault → (growth : ℕ) → ℕ → Update → Seen → Result (Unit {0}) Stop
    → Seen → Type 0
Updates refusal growth name change before result after = (object : Contents)
    → object_at name before ≡ Some object
    → Does (update refusal growth name object change) before result after

-- That a message is answered by a primitive.
use Rattle.std.specs.Prelude.{◌≡◌, ℕ, false, Some, Ok}
use Rattle.gem_object.specs.texts.Bytes.{Bytes as Text}
use Rattle.gem_object.specs.declared.value.Value.{Value}
use Rattle.gem_object.specs.declared.body.MethodCode.TheVariants.{Primitive}
use Rattle.running_objects.specs.gem_world.World.{Setting, World}
use Rattle.running_objects.specs.object_programs.Budget.{Budget}
use Rattle.running_objects.specs.Seen.{Seen}
use Rattle.gem_language.specs.declared.found.Found.{Found}
use Rattle.gem_language.specs.tree_meaning.Place.{Frame}
use Rattle.gem_language.specs.LookUp.{Start, find_method}
use Rattle.prim_parts.specs.Does.{Does}
use Rattle.look_up_cache.specs.Remembered.{Finds}
use Rattle.look_up_cache.specs.Budgets.{with_budget}

-- A look-up with this selector that begins there finds the primitive of this number, and changes
-- nothing.
pub record FindsPrimitive (start : Start) (selector : Text) (number : ℕ) (setting : Setting)
    (world : World) : Type 0 where
  pub found : Found
  pub finds : Finds start selector (Some found) setting world
  pub code : found.code ≡ Primitive number

-- A look-up of the message with this selector for this receiver finds a method that is the primitive
-- of this number, whatever the budget is, and changes nothing.
abbrev pub AnswersBy : ℕ → Value → Text → Seen → Type 0
AnswersBy number receiver selector seen =
    (found : Found) × (found.code ≡ Primitive number)
    × ((frame : Frame) (budget : Budget) → Does (find_method false frame receiver selector)
    (with_budget budget seen) (Ok (Some found)) (with_budget budget seen))

-- The limits of objects, and what tells whether an object stays within them.
use Rattle.std.specs.Prelude.{◌≡◌, ℕ, Bool, ◌&&◌, Some}
use Rattle.gem_object.specs.declared.body.Body.{Body}
use Rattle.gem_update.specs.Update.{updated}
use Rattle.gem_update.specs.declared.update.Update.{Update}
use Rattle.body_growth.specs.declared.change.Change.{Change}
use Rattle.body_growth.specs.Changes.{Changes}
use Rattle.gem_sound.specs.gem_image.Image.{Contents}
use Rattle.object_programs.specs.gem_world.Changes.{with_body}
use Rattle.tree_meaning.specs.Place.{MadeBlock}
use Rattle.object_programs.specs.Atom.{Room}
use Rattle.object_programs.specs.Budget.{is_small, is_within_limits}
use Rattle.object_programs.specs.Programs.{need, check}
use Rattle.object_programs.specs.Run.{Run, give, atom, and_then}
use Rattle.object_programs.specs.declared.fault.Fault.{Fault}
use Rattle.object_programs.specs.declared.fault.Fault.TheVariants as fault
use Rattle.running_objects.specs.Seen.{Seen, object_at}

-- This tells whether the object of this name is within the limits after the change.
abbrev pub TellsLimits : Change → ℕ → Seen → Bool → Type 0
TellsLimits change name seen result = (object : Contents) (new : Body)
    → object_at name seen ≡ Some object → Changes change object.body new
    → result ≡ is_within_limits (with_body new object)

-- E17 unless the object will be small enough, and then the space by which it grows, or E15
abbrev pub room_where : Bool → (growth : ℕ) → Run MadeBlock (Unit {0})
room_where is_small growth =
    and_then (check fault.ObjectTooLarge is_small) (λ small. atom (Room growth))

-- whether a body is within the limits before an update and after it, or this error where the update
-- is refused
abbrev pub limits_of_update : Fault → Update → Body → Run MadeBlock Bool
limits_of_update refusal change old =
    and_then (need refusal (updated change old)) (λ new. give (is_small old && is_small new))

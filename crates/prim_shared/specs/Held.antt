-- How code goes on with a receiver that was read or written.
use Rattle.std.specs.Prelude.{◌≡◌, ℕ, Option, Some, option_and_then, Result}
use Rattle.prim_parts.specs.tree_meaning.Place.{MadeBlock}
use Rattle.gem_object.specs.declared.body.Body.{Body}
use Rattle.gem_sound.specs.gem_image.Image.{Contents}
use Rattle.object_programs.specs.Run.{Run}
use Rattle.prim_rules.specs.Receivers.{Receiver}
use Rattle.running_objects.specs.Seen.{Seen, object_at}
use Rattle.running_objects.specs.declared.stop.Stop.{Stop}
use Rattle.prim_parts.specs.Does.{Does}

module _ {A : Type 0} where
  -- what an object holds, where its body is of this kind
  abbrev pub held_of : (Body → Option A) → Option Contents → Option A
  held_of part found = option_and_then (λ object. part object.body) found

  -- Code went on with the receiver of this name as the program does.
  abbrev pub GoesOn : {C : Type 0} → (Body → Option A) → (Receiver A → Run MadeBlock C) → ℕ
      → Seen → Result C Stop → Seen → Type 0
  GoesOn part program name before result after = (object : Contents) → (held : A)
      → object_at name before ≡ Some object → part object.body ≡ Some held
      → Does (program (record { name = name; object = object; held = held })) before result after

  -- what code says of what the object of this name holds
  abbrev pub SaysOf : {C : Type 0} → (Body → Option A) → (A → C) → ℕ → Seen → C → Type 0
  SaysOf part says name seen said = (object : Contents) → (held : A)
      → object_at name seen ≡ Some object → part object.body ≡ Some held → said ≡ says held

-- What code says of an object that it looks at, after an access or before an edit.
use Rattle.std.specs.Prelude.{◌≡◌, ℕ, Some, Result}
use Rattle.prim_parts.specs.tree_meaning.Place.{MadeBlock}
use Rattle.gem_sound.specs.gem_image.Image.{Contents}
use Rattle.object_programs.specs.Run.{Run}
use Rattle.running_objects.specs.Seen.{Seen, object_at}
use Rattle.running_objects.specs.declared.stop.Stop.{Stop}
use Rattle.prim_parts.specs.Does.{Does}

module _ {A : Type 0} where
  -- Code that changed nothing did what the program does for the object of this name.
  abbrev pub Looks : (Contents → Run MadeBlock A) → ℕ → Seen → Result A Stop → Type 0
  Looks program name seen result = (object : Contents) → object_at name seen ≡ Some object
      → Does (program object) seen result seen

  -- what code says of the object of this name
  abbrev pub SaysOf : (Contents → A) → ℕ → Seen → A → Type 0
  SaysOf says name seen said = (object : Contents) → object_at name seen ≡ Some object
      → said ≡ says object

  -- Code went on from the object of this name as the program does.
  abbrev pub GoesOn : (Contents → Run MadeBlock A) → ℕ → Seen → Result A Stop → Seen → Type 0
  GoesOn program name before result after = (object : Contents)
      → object_at name before ≡ Some object → Does (program object) before result after

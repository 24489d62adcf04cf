-- What code says of a receiver that it reached.
use Rattle.std.specs.Prelude.{◌≡◌, ℕ, Option, Some, Result, Ok, Err}
use Rattle.tree_meaning.specs.Place.{MadeBlock}
use Rattle.gem_object.specs.declared.body.Body.{Body}
use Rattle.gem_sound.specs.gem_image.Image.{Contents}
use Rattle.object_programs.specs.Run.{Run}
use Rattle.prim_rules.specs.Receivers.{Receiver}
use Rattle.running_objects.specs.Seen.{Seen, object_at}
use Rattle.running_objects.specs.declared.stop.Stop.{Stop}
use Rattle.prim_parts.specs.Does.{Does}

module _ {A : Type 0} where
  -- Code reached a receiver as the program does: it is the object of this name, and its body holds
  -- what the rule is for.
  pub record Reaches (part : Body → Option A) (program : Run MadeBlock (Receiver A))
      (before : Seen) (name : ℕ) (after : Seen) : Type 0 where
    pub object : Contents
    pub held : A
    pub there : object_at name after ≡ Some object
    pub holds : part object.body ≡ Some held
    pub does : Does program before
        (Ok (record { name = name; object = object; held = held })) after

  abbrev pub Receives : (Body → Option A) → Run MadeBlock (Receiver A) → Seen
      → Result ℕ Stop → Seen → Type 0
  Receives part program before (Ok name) after = Reaches part program before name after
  Receives part program before (Err ended) after = Does program before (Err ended) after

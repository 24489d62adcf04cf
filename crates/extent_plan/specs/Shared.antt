-- When old leaves may stay.
use Rattle.std.specs.Prelude.{◌≡◌, ℕ, ◌≤◌, List, [], ◌∷◌, Some, IsSome}
use Rattle.std.specs.FinMap.{get}
use Rattle.gem_object.specs.declared.object.Object.{Object}
use Rattle.gem_image.specs.Image.{Image, Agree, contents_of}

-- Each name of the held image is in the image, and each object of the image that wasn't changed after
-- the commit of this number stands in the held one with the same class, segment and body.
pub record KeepsHeld (image held : Image) (since : ℕ) : Type 0 where
  pub names : (name : ℕ) → IsSome (get held name) → IsSome (get image name)
  pub unchanged : (name : ℕ) (object : Object) → get image name ≡ Some object
      → object.changed ≤ since → Agree image held name

-- objects at the same names, with the same class, segment and body
abbrev pub Alike : List (ℕ × Object) → List (ℕ × Object) → Type 0
Alike [] [] = Unit {0}
Alike [] (entry ∷ others) = ⊥
Alike (entry ∷ objects) [] = ⊥
Alike (entry ∷ objects) (other ∷ others) = (entry.0 ≡ other.0)
    × (contents_of entry.1 ≡ contents_of other.1) × Alike objects others

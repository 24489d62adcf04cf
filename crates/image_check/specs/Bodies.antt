-- Objects whose class is not told by its kind.
use Rattle.std.specs.Prelude.{◌≡◌, ℕ, [], IsSome}
use Rattle.gem_object.specs.declared.body.Body.{Body}
use Rattle.gem_object.specs.declared.body.Body.TheVariants.{Plain, Class}
use Rattle.gem_image.specs.Image.{Objects}
use Rattle.gem_sound.specs.Parts.{class_at}
use Rattle.gem_sound.specs.Kernel.{class_class, transcript_class}

-- a class object, or a transcript
abbrev pub IsSpecial : Objects → ℕ → Body → Type 0
IsSpecial objects class (Class _) = (class ≡ class_class) × IsSome (class_at objects class)
IsSpecial objects class (Plain []) = (class ≡ transcript_class) × IsSome (class_at objects class)
IsSpecial objects class _ = ⊥

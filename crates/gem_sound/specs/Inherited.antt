-- The names of instance variables that a class has, with those that it inherits.
use Rattle.std.specs.Prelude.{◌≡◌, ℕ, List, ◌++◌, Some, None}
use Rattle.gem_object.specs.texts.Bytes.{Bytes as Text}
use Rattle.gem_object.specs.declared.body.ClassBody.{ClassBody}
use Rattle.gem_image.specs.Image.{Objects}
use Rattle.gem_sound.specs.Kernel.{object_class}
use Rattle.gem_sound.specs.Parts.{class_at}

-- The instances of the class of this name have slots of these names, the inherited ones first. The
-- class at the end of the superclasses, which has none itself, is Object.
pub data HasNames (objects : Objects) : ℕ → List Text → Type 0 where
  at_the_end : (class : ClassBody)
      → class_at objects object_class ≡ Some class → class.superclass ≡ None
      → HasNames objects object_class class.names
  under : (number superclass : ℕ) (class : ClassBody) (inherited : List Text)
      → class_at objects number ≡ Some class → class.superclass ≡ Some superclass
      → HasNames objects superclass inherited
      → HasNames objects number (inherited ++ class.names)

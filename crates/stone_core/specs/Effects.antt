-- Objects that are looked up by their names.
use Rattle.std.specs.Prelude.{ℕ, List, [], ◌∷◌, Option, Some, None}
use Rattle.std.specs.List.{flat_map}
use Rattle.gem_object.specs.declared.object.Object.{Object}
use Rattle.gem_record.specs.Names.{under}

-- the object with its name, if there is one
abbrev pub named : ℕ → Option Object → List (ℕ × Object)
named name None = []
named name (Some object) = (name, object) ∷ []

-- those of these names that are among the objects
abbrev pub found_in : List (ℕ × Object) → List ℕ → List (ℕ × Object)
found_in objects names = flat_map (λ name. named name (under name objects)) names

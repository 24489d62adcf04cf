-- The classes from one up to the last superclass, by fixed parts alone.
use Rattle.std.specs.Prelude.{ℕ, zero, suc, Bool, nat_eq, length, sum_by, List, [], ◌∷◌, Option, Some, None}
use Rattle.std.specs.List.{list_any, flat_map}
use Rattle.gem_object.specs.texts.Bytes.{Bytes as Text}
use Rattle.gem_object.specs.declared.body.ClassBody.{ClassBody}
use Rattle.object_programs.specs.Fixed.{ClassPart, fixed_by}
use Rattle.object_programs.specs.Guard.{Parts}
use Rattle.object_programs.specs.Programs.{part_of}
use Rattle.running_objects.specs.Seen.{Seen}

-- what of a class is fixed
abbrev pub part_of_class : ClassBody → ClassPart
part_of_class class =
    record { superclass = class.superclass; kind = class.kind; names = class.names }

-- the fixed parts of the objects that are seen
abbrev pub parts_seen : Seen → Parts
parts_seen seen = fixed_by seen.setting seen.world

-- the classes above one with this superclass, if it has one
abbrev pub classes_over : Option ℕ → (ℕ → List (ℕ × ClassPart)) → List (ℕ × ClassPart)
classes_over None above = []
classes_over (Some superclass) above = above superclass

-- a class with those above it; what isn't a class ends them
abbrev pub classes_with : ℕ → Option ClassPart → (ℕ → List (ℕ × ClassPart))
    → List (ℕ × ClassPart)
classes_with name None above = []
classes_with name (Some part) above = (name, part) ∷ classes_over part.superclass above

-- the same, where at most so many are gone through
abbrev pub classes_counted : Parts → (limit name : ℕ) → List (ℕ × ClassPart)
classes_counted parts zero name = []
classes_counted parts (suc more) name =
    classes_with name (part_of (parts name)) (classes_counted parts more)

-- the same, where the limit isn't counted down by computing
unfoldable pub classes_up : Parts → (limit name : ℕ) → List (ℕ × ClassPart)
classes_up parts limit name = classes_counted parts limit name

-- whether one of the classes has this name, how many names they add, and these names
abbrev pub has_class : ℕ → List (ℕ × ClassPart) → Bool
has_class ancestor classes = list_any (λ entry. nat_eq entry.0 ancestor) classes

abbrev pub count_names : List (ℕ × ClassPart) → ℕ
count_names classes = sum_by (λ entry. length entry.1.names) classes

abbrev pub names_of : List (ℕ × ClassPart) → List Text
names_of classes = flat_map (λ entry. entry.1.names) classes

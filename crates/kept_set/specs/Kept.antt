-- Which of the objects that a transaction made are kept.
use Rattle.std.specs.Prelude.{◌≡◌, ℕ, zero, suc, ◌+◌, not, List, [], ◌∷◌, ◌++◌, length, reverse, map, filter, Option, Some, None, IsSome}
use Rattle.std.specs.Ordering.{nat_cmp, eq_by_cmp}
use Rattle.std.specs.List.{Contains, flat_map}
use Rattle.std.specs.Option.{is_none}
use Rattle.std.specs.FinMap.{find}
use Rattle.gem_object.specs.References.{references_of}
use Rattle.gem_object.specs.declared.object.Object.{Object}
use Rattle.gem_update.specs.References.{names_in_update}
use Rattle.gem_update.specs.declared.update.Update.{Update}

-- objects by their names
abbrev pub Objects : Type 0
Objects = List (ℕ × Object)

-- the object of this name, if there is one
abbrev pub object_of : ℕ → Objects → Option Object
object_of name objects = find nat_cmp name objects

-- the names of the objects
abbrev pub names_of : Objects → List ℕ
names_of objects = map (λ entry. entry.0) objects

-- what written objects and updates refer to
abbrev pub roots_of : Objects → List (ℕ × List Update) → List ℕ
roots_of written updates = flat_map (λ entry. references_of entry.1) written
    ++ flat_map (λ entry. flat_map names_in_update entry.1) updates

-- The smallest set of made names that has each made name among the roots, and each made name to
-- which a made object of a name in the set refers.
pub data IsKept (roots : List ℕ) (made : Objects) : ℕ → Type 0 where
  root : (name : ℕ) → Contains roots name → IsSome (object_of name made) → IsKept roots made name
  reached : (from name : ℕ) (object : Object) → IsKept roots made from
      → object_of from made ≡ Some object → Contains (references_of object) name
      → IsSome (object_of name made) → IsKept roots made name

-- ---- the same as a function, by what is left of the made objects

-- the objects of other names
abbrev pub without : ℕ → Objects → Objects
without name objects = filter (λ entry. not (eq_by_cmp nat_cmp name entry.0)) objects

-- how many references the objects have together
abbrev pub reference_count : Objects → ℕ
reference_count [] = 0
reference_count (entry ∷ objects) = length (references_of entry.1) + reference_count objects

-- A name is taken from the pile. Where it is that of an object that is left, the object goes, and
-- what it refers to comes on the pile.
abbrev pub on_found : (List ℕ → Objects → Objects) → ℕ → List ℕ → Objects → Option Object → Objects
on_found follow name pile left None = follow pile left
on_found follow name pile left (Some object) =
    follow (reverse (references_of object) ++ pile) (without name left)

-- what is left of the objects after so many names were taken from the pile, or once it is empty
abbrev pub left_after : ℕ → List ℕ → Objects → Objects
left_after zero pile left = left
left_after (suc steps) [] left = left
left_after (suc steps) (name ∷ pile) left =
    on_found (left_after steps) name pile left (object_of name left)

-- The made objects to which nothing leads. Each name on the pile is a root or a reference of a made
-- object that has gone, so no more names are taken than there are of these.
unfoldable pub dropped : List ℕ → Objects → Objects
dropped roots made = left_after (length roots + reference_count made) (reverse roots) made

-- the made objects that are kept, in their order
unfoldable pub kept_of : List ℕ → Objects → Objects
kept_of roots made = filter (λ entry. is_none (object_of entry.0 (dropped roots made))) made

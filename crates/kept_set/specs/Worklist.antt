-- What the search for the kept objects has done, by a mark for each made object that it has seen.
use Rattle.std.specs.Prelude.{◌≡◌, ℕ, ◌+◌, Bool, true, false, List, [], ◌∷◌, ◌++◌, length, Option, Some, None}
use Rattle.gem_object.specs.References.{references_of}
use Rattle.gem_object.specs.declared.object.Object.{Object}
use Rattle.kept_set.specs.Kept.{Objects, object_of, without, reference_count, dropped}

-- the objects that aren't marked
abbrev pub unseen : Objects → List Bool → Objects
unseen [] marks = []
unseen (entry ∷ objects) [] = []
unseen (entry ∷ objects) (true ∷ marks) = unseen objects marks
unseen (entry ∷ objects) (false ∷ marks) = entry ∷ unseen objects marks

-- the name, where it is marked
abbrev pub name_seen : Bool → ℕ → List ℕ
name_seen true name = name ∷ []
name_seen false name = []

-- the names of the objects that are marked
abbrev pub marked : Objects → List Bool → List ℕ
marked [] marks = []
marked (entry ∷ objects) [] = []
marked (entry ∷ objects) (mark ∷ marks) = name_seen mark entry.0 ++ marked objects marks

-- there is a mark for each made object, and those without one are those to which no root leads
abbrev pub AreReached : List ℕ → Objects → List Bool → Type 0
AreReached roots made marks =
    (length marks ≡ length made) × (unseen made marks ≡ dropped roots made)

-- One name was followed: `left` and `pile` before, `left_now` and `pile_now` after. An object that
-- was found has gone with its references, which are on the pile.
abbrev pub IsFollowedTo : ℕ → Objects → List ℕ → Objects → List ℕ → Option Object → Type 0
IsFollowedTo name left pile left_now pile_now None = (left_now ≡ left) × (pile_now ≡ pile)
IsFollowedTo name left pile left_now pile_now (Some object) = (left_now ≡ without name left)
    × (pile_now ≡ pile ++ references_of object)
    × (reference_count left_now + length (references_of object) ≡ reference_count left)

-- the same where the objects that are left are those without a mark
abbrev pub IsFollowed : ℕ → Objects → List Bool → List ℕ → List Bool → List ℕ → Type 0
IsFollowed name made marks pile marks_now pile_now = IsFollowedTo name (unseen made marks) pile
    (unseen made marks_now) pile_now (object_of name (unseen made marks))

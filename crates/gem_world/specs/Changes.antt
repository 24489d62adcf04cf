-- Changes of objects, and what a transaction has changed in the end.
use Rattle.std.specs.Prelude.{ℕ, ◌+◌, Bool, not, cond, ◌&&◌, if◌then◌else◌, nat_eq, List, [], ◌∷◌, ◌++◌, filter, Option, Some, None}
use Rattle.std.specs.List.{filter_map}
use Rattle.std.specs.FinMap.{insert, entries}
use Rattle.gem_image.specs.gem_object.Kinds.{is_shared}
use Rattle.gem_image.specs.gem_object.declared.body.Body.{Body}
use Rattle.gem_image.specs.Image.{Contents}
use Rattle.gem_update.specs.declared.update.Update.{Update}
use Rattle.gem_world.specs.World.{Setting, World, is_made, next_name}

-- the object with another body, or in another segment
abbrev pub with_body : Body → Contents → Contents
with_body body object = record object { body = body }

abbrev pub in_segment : ℕ → Contents → Contents
in_segment segment object = record object { segment = segment }

-- the object of this name is this one from now on
unfoldable pub put : ℕ → Contents → World → World
put name object world = record world { changes = insert world.changes name object }

-- the next name is drawn, for this object
unfoldable pub make : Contents → Setting → World → World
make object setting world = record world {
  next = world.next + 1;
  changes = insert world.changes (next_name setting world) object;
}

-- an update of a reduced-conflict object is noted, unless the object was made here
unfoldable pub note : ℕ → Update → Setting → World → World
note name update setting world = record world {
  updates = cond (is_made name setting world) world.updates (world.updates ++ (name, update) ∷ []);
}

-- whether an object is one that the transaction made
abbrev pub was_made : Setting → World → ℕ × Contents → Bool
was_made setting world entry = is_made entry.0 setting world

-- whether it is an ordinary one that was there before
abbrev pub was_written : Setting → World → ℕ × Contents → Bool
was_written setting world entry =
    not (is_made entry.0 setting world) && not (is_shared entry.1.body)

-- the objects that the transaction made, and the ordinary ones that it wrote, ascending by name
abbrev pub made_objects : Setting → World → List (ℕ × Contents)
made_objects setting world = filter (was_made setting world) (entries world.changes)

abbrev pub written_objects : Setting → World → List (ℕ × Contents)
written_objects setting world = filter (was_written setting world) (entries world.changes)

abbrev pub update_on : ℕ → ℕ × Update → Option Update
update_on name entry = if nat_eq entry.0 name then Some entry.1 else None

-- the updates of one object, in their order
abbrev pub updates_on : ℕ → List (ℕ × Update) → List Update
updates_on name updates = filter_map (update_on name) updates

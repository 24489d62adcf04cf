-- What a transaction has done, by name: which of the changed objects come into a list, and the
-- updates that a map holds.
use Rattle.std.specs.Prelude.{ℕ, Bool, true, false, cond, nat_eq, List, [], Option, None, Some, option_map}
use Rattle.std.specs.List.{flat_map}
use Rattle.std.specs.Option.{option_to_list}
use Rattle.std.specs.FinMap.{get}
use Rattle.indexmap.specs.IndexMap as index
use Rattle.gem_object.specs.declared.object.Object.{Object}
use Rattle.gem_update.specs.declared.update.Update.{Update}
use Rattle.gem_image.specs.Image.{Contents}
use Rattle.gem_world.specs.World.{Setting, World}
use Rattle.gem_world.specs.Changes.{was_made, was_written}
use Rattle.gem_record.specs.Record.{uncommitted}
use Rattle.running_objects.specs.Seen.{Seen}

-- whether a changed object is one that was made, or an ordinary one that was written
abbrev pub is_chosen : (made : Bool) → Setting → World → ℕ × Contents → Bool
is_chosen true setting world entry = was_made setting world entry
is_chosen false setting world entry = was_written setting world entry

-- the changed object of this name, if there is one of that kind
abbrev pub chosen_by : Bool → ℕ → Seen → Option Contents → Option Object
chosen_by made name seen None = None
chosen_by made name seen (Some object) =
    cond (is_chosen made seen.setting seen.world (name, object)) (Some (uncommitted object)) None

abbrev pub chosen : Bool → Seen → ℕ → Option Object
chosen made seen name = chosen_by made name seen (get seen.world.changes name)

-- those of these names, each with its name
abbrev pub all_chosen : Bool → Seen → List ℕ → List (ℕ × Object)
all_chosen made seen names = flat_map
    (λ name. option_to_list (option_map (λ object. (name, object)) (chosen made seen name))) names

-- the updates that a map holds under a name
abbrev pub items_of : Option (List Update) → List Update
items_of None = []
items_of (Some updates) = updates

abbrev pub updates_at : {S : Type 0} → index.IndexMap ℕ (List Update) S → ℕ → List Update
updates_at groups name = items_of (index.get nat_eq groups name)

-- Names in order: those that a transaction touched, and the objects that it updated.
use Rattle.std.specs.Prelude.{ℕ, List, map}
use Rattle.std.specs.Ordering.{nat_cmp}
use Rattle.std.specs.FinMap.{keys, from_entries}
use Rattle.gem_update.specs.declared.update.Update.{Update}
use Rattle.gem_world.specs.World.{World}
use Rattle.gem_world.specs.Changes.{updates_on}

-- names, each with nothing
abbrev pub marked : List ℕ → List (ℕ × Unit {0})
marked names = map (λ name. (name, tt)) names

-- names, ascending and each once
abbrev pub ascending : List ℕ → List ℕ
ascending names = keys (from_entries {R = nat_cmp} (marked names))

-- the names that were touched
abbrev pub touched_names : World → List ℕ
touched_names world = ascending world.touched

-- the updates of each object that has some, ascending by the objects' names
abbrev pub updates_by_name : World → List (ℕ × List Update)
updates_by_name world = map (λ name. (name, updates_on name world.updates))
    (ascending (map (λ (entry : ℕ × Update). entry.0) world.updates))

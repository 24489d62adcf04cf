use Rattle.std.proofs.Common.{◌≡◌, ◌++◌, take}
use Rattle.std.specs.List.{flat_map}
use Rattle.gem_update.specs.References.{names_in_update}
use Rattle.kept_set.proofs.roots.push_updates.Given as goal

-- what those before this one refer to is added
abbrev pub invariant-loop-update : goal.invariant-loop-update
invariant-loop-update l = l.names.items
    ≡ l.initial.names.items ++ flat_map names_in_update (take l.update-index l.updates)

use Rattle.std.proofs.Common.{◌≡◌, ◌++◌, take}
use Rattle.std.specs.List.{flat_map}
use Rattle.gem_update.specs.References.{names_in_update}
use Rattle.kept_set.proofs.roots.push_updated.Given as goal

-- what those before this one refer to is added
abbrev pub invariant-loop-entry : goal.invariant-loop-entry
invariant-loop-entry l = l.names.items
    ≡ l.initial.names.items ++ flat_map (λ e. flat_map names_in_update e.1) (take l.entry-index l.updates)

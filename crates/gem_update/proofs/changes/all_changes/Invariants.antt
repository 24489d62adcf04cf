use Rattle.std.proofs.Common.{◌≡◌, drop, ◌++◌}
use Rattle.std.specs.Option.{option_map}
use Rattle.gem_update.specs.Update.{all_changes}
use Rattle.gem_update.proofs.changes.all_changes.Given as goal

-- all changes are those so far, and then those of the updates that are left
abbrev pub invariant-loop-update : goal.invariant-loop-update
invariant-loop-update g l =
    all_changes g.C.Change.change_of l.updates
    ≡ option_map (λ more. l.changes.items ++ more) (all_changes g.C.Change.change_of (drop l.update-index l.updates))

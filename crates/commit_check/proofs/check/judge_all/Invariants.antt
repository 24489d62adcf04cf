use Rattle.std.proofs.Common.{◌≡◌, take, flat_map}
use Rattle.commit_check.specs.Conflicts.{conflicts_on, merged_on}
use Rattle.commit_check.proofs.check.judge_all.Given as goal

-- what the names so far give
abbrev pub invariant-loop-oid : goal.invariant-loop-oid
invariant-loop-oid l =
    (l.found.items ≡ flat_map (conflicts_on (record { image = l.image; locks = l.locks }) l.transaction)
    (take l.oid-index l.names))
    × (l.merged.items ≡ flat_map (merged_on l.image l.transaction) (take l.oid-index l.names))

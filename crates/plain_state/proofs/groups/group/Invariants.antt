use Rattle.std.proofs.Common.{◌≡◌, ℕ, take}
use Rattle.gem_world.specs.Changes.{updates_on}
use Rattle.plain_state.specs.Lists.{updates_at}
use Rattle.plain_state.proofs.groups.group.Given as goal

-- each name has the updates before this one
abbrev pub invariant-loop-oid : goal.invariant-loop-oid
invariant-loop-oid l = (name : ℕ) → updates_at l.groups name ≡ updates_on name (take l.oid-index l.updates)

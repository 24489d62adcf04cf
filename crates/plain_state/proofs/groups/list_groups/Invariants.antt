use Rattle.std.proofs.Common.{◌≡◌, ℕ, map, take}
use Rattle.plain_state.specs.Lists.{updates_at}
use Rattle.plain_state.proofs.groups.list_groups.Given as goal

-- the groups of the names before this one
abbrev pub invariant-loop-oid : goal.invariant-loop-oid
invariant-loop-oid l = l.listed.items ≡ map (λ (name : ℕ). (name, updates_at l.groups name)) (take l.oid-index l.names)

use Rattle.std.proofs.Common.{◌≡◌, ℕ, map, take}
use Rattle.gem_update.specs.declared.update.Update.{Update}
use Rattle.plain_state.proofs.lists.numbers_of.Given as goal

-- the numbers of the updates before this one
abbrev pub invariant-loop-oid : goal.invariant-loop-oid
invariant-loop-oid l = l.numbers.items ≡ map (λ (update : ℕ × Update). update.0) (take l.oid-index l.updates)

use Rattle.std.proofs.Common.{◌≡◌, take}
use Rattle.prim_rules.specs.Bags.{items_of}
use Rattle.prim_shared.proofs.lists.items_of.Given as goal

-- the items before this one
abbrev pub invariant-loop-pair : goal.invariant-loop-pair
invariant-loop-pair l = l.values.items ≡ items_of (take l.pair-index l.occurrences)

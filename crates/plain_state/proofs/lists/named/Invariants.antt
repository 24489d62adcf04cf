use Rattle.std.proofs.Common.{◌≡◌, take}
use Rattle.plain_state.proofs.lists.named.Given as goal

-- the names with the numbers before this one
abbrev pub invariant-loop-number : goal.invariant-loop-number
invariant-loop-number l = l.names.items ≡ take l.number-index l.numbers

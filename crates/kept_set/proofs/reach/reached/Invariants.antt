use Rattle.std.proofs.Common.{◌≡◌, length}
use Rattle.kept_set.specs.Worklist.{unseen}
use Rattle.kept_set.proofs.Steps.{IsOnTheWay, work}
use Rattle.kept_set.proofs.reach.reached.Given as goal

-- what is left is on its way to what is left in the end
abbrev pub invariant-loop-name : goal.invariant-loop-name
invariant-loop-name l = record {
  marks : length l.seen.items ≡ length l.made;
  on : IsOnTheWay l.fn.pile.items l.made l.pile.items (unseen l.made l.seen.items);
}

-- the names that may still be taken from the pile
abbrev pub decreases-loop-name : goal.decreases-loop-name
decreases-loop-name l = work l.pile.items (unseen l.made l.seen.items)

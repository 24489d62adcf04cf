use Rattle.std.proofs.Common.{◌≡◌, length}
use Rattle.std.specs.List.{All}
use Rattle.gem_object.specs.Spelling.{IsStorable}
use Rattle.commit_tests.proofs.commit_check_tests.queue.Given as goal

-- so many values so far, which can be stored
abbrev pub invariant-loop-at : goal.invariant-loop-at
invariant-loop-at l = (length l.items.items ≡ l.at) × All IsStorable l.items.items

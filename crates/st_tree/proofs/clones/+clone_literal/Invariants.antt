use Rattle.std.proofs.Common.{◌≡◌, take}
use Rattle.st_tree.proofs.clones.+clone_literal.Given as goal

abbrev pub invariant-copy_literals-loop-literal : goal.invariant-copy_literals-loop-literal
invariant-copy_literals-loop-literal l = l.copies.items ≡ take l.literal-index l.literals.items

use Rattle.std.proofs.Common.{◌≡◌, drop}
use Rattle.st_code.specs.Operands.{first_pushes}
use Rattle.st_code.specs.Faults.{no_pushes}
use Rattle.st_code.proofs.literals.first_pushes.Given as goal

abbrev pub invariant-loop-at : goal.invariant-loop-at
invariant-loop-at l = first_pushes l.at (drop l.at l.lines) l.pushes.items
    ≡ first_pushes 0 l.lines (no_pushes l.blocks)

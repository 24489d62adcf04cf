use Rattle.std.proofs.Common.{◌≡◌, drop}
use Rattle.st_code.specs.Faults.{lowest_fault, jump_faults, jump_fault}
use Rattle.st_code.proofs.rules.jump_fault.Given as goal

abbrev pub invariant-loop-at : goal.invariant-loop-at
invariant-loop-at l = lowest_fault (jump_faults l.lines) l.at (drop l.at l.lines) l.found ≡ jump_fault l.lines

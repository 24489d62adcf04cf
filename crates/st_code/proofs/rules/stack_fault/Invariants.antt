use Rattle.std.proofs.Common.{◌≡◌, None, drop}
use Rattle.st_code.specs.Faults.{lowest_fault, stack_faults}
use Rattle.st_code.proofs.rules.stack_fault.Given as goal

abbrev pub invariant-loop-at : goal.invariant-loop-at
invariant-loop-at l =
    let faults = stack_faults l.known.lines.items l.blocks l.known.held.items in
    lowest_fault faults l.at (drop l.at l.known.lines.items) l.found ≡ lowest_fault faults 0 l.known.lines.items None

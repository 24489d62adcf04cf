use Rattle.std.proofs.Common.{◌≤◌, ◌<◌, ◌-◌, ◌^◌}
use Rattle.gem_meaning.specs.Opened.{largest_serial}
use Rattle.stone_core.proofs.serial.largest_serial.Given as goal

-- the serial so far is that of a name, or 0
abbrev pub invariant-loop-entry : goal.invariant-loop-entry
invariant-loop-entry l = (l.largest < 2 ^ 24) × (l.largest ≤ largest_serial l.image)

abbrev pub decreases-loop-entry : goal.decreases-loop-entry
decreases-loop-entry l = 2 ^ 24 - l.largest

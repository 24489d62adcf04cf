use Rattle.std.proofs.Common.{◌≡◌, drop}
use Rattle.st_code.specs.Faults.{lowest, meetings}
use Rattle.st_code.proofs.rules.meeting_found.Given as goal

abbrev pub invariant-loop-way : goal.invariant-loop-way
invariant-loop-way l = lowest l.found (meetings l.on l.known.lines.items l.known.held.items (drop l.way-index l.ways))
    ≡ lowest l.initial.found (meetings l.on l.known.lines.items l.known.held.items l.ways)

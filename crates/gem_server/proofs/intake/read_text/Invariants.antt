use Rattle.std.proofs.Common.{◌-◌, length}
use Rattle.shell_words.specs.declared.limits.TheConstants.{SCRIPT_LIMIT}
use Rattle.gem_server.proofs.Devices.{HasRead}
use Rattle.gem_server.proofs.intake.read_text.Given as goal

abbrev pub invariant-loop-text : goal.invariant-loop-text
invariant-loop-text g l =
    HasRead (g.S.Source.left l.fn.source) (g.S.Source.left l.source) l.text.items SCRIPT_LIMIT (g.S.Source.faults l.fn.source) (g.S.Source.faults l.source)

abbrev pub decreases-loop-text : goal.decreases-loop-text
decreases-loop-text g l = SCRIPT_LIMIT - length l.text.items

use Rattle.std.proofs.Common.{length}
use Rattle.gem_disk.proofs.Undoing.{Undoing}
use Rattle.gem_disk.proofs.recorded.undo.Given as goal

abbrev pub invariant-loop-call : goal.invariant-loop-call
invariant-loop-call l = Undoing l.file l.calls l.rest l.initial.bytes.items l.bytes.items

abbrev pub decreases-loop-call : goal.decreases-loop-call
decreases-loop-call l = length l.rest

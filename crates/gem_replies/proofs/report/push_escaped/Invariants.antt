use Rattle.std.proofs.Common.{◌≡◌, ◌++◌, take}
use Rattle.gem_replies.specs.Escapes.{escaped}
use Rattle.gem_replies.proofs.report.push_escaped.Given as goal

abbrev pub invariant-loop-byte : goal.invariant-loop-byte
invariant-loop-byte l = l.report.items ≡ l.initial.report.items ++ escaped (take l.byte-index l.text)

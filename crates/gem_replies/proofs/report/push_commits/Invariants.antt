use Rattle.std.proofs.Common.{◌≡◌, ◌+◌, ◌++◌, take}
use Rattle.gem_object.specs.texts.Lines.{text_of_lines}
use Rattle.gem_replies.specs.Report.{history_lines}
use Rattle.gem_replies.proofs.report.push_commits.Given as goal

abbrev pub invariant-loop-index : goal.invariant-loop-index
invariant-loop-index l = l.report.items ≡ l.initial.report.items ++ text_of_lines (history_lines (l.first + 1) (take l.index l.history))

use Rattle.std.proofs.Common.{◌≡◌, ◌++◌, take}
use Rattle.std.specs.List.{flat_map}
use Rattle.gem_object.specs.texts.Lines.{text_of_lines}
use Rattle.gem_replies.specs.Report.{reply_lines}
use Rattle.gem_replies.proofs.report.push_replies.Given as goal

abbrev pub invariant-loop-reply : goal.invariant-loop-reply
invariant-loop-reply l = l.report.items ≡ l.initial.report.items ++ flat_map (λ x. text_of_lines (reply_lines x)) (take l.reply-index l.replies)

use Rattle.std.proofs.Common.{◌≡◌, ◌++◌, ap, ◌∙◌, length, arith}
use Rattle.gem_object.specs.texts.Lines.{text_of_lines}
use Rattle.gem_replies.specs.Report.{reply_lines}
use Rattle.gem_replies.proofs.Written.{all_written, lines_by_item}
use Rattle.gem_replies.proofs.report.push_replies.Goals as goal

pub returns : goal.returns
returns c =
    let over : c.loop-reply.reply-index ≡ length c.args.replies.now = omega arith in
    all_written (λ x. text_of_lines (reply_lines x)) c.args.replies.now _ _ _ over c.loop-reply.invariant
    ∙ ap (λ text. c.args.report.now.items ++ text) (lines_by_item reply_lines c.args.replies.now)

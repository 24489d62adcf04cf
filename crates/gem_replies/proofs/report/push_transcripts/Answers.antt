use Rattle.std.proofs.Common.{◌≡◌, ◌++◌, ap, ◌∙◌, length, arith}
use Rattle.gem_object.specs.texts.Lines.{text_of_lines}
use Rattle.gem_replies.specs.Report.{transcript_lines}
use Rattle.gem_replies.proofs.Written.{all_written, lines_by_item}
use Rattle.gem_replies.proofs.report.push_transcripts.Goals as goal

pub returns : goal.returns
returns c =
    let over : c.loop-transcript.transcript-index ≡ length c.args.transcripts.now = omega arith in
    all_written (λ x. text_of_lines (transcript_lines x)) c.args.transcripts.now _ _ _ over c.loop-transcript.invariant
    ∙ ap (λ text. c.args.report.now.items ++ text) (lines_by_item transcript_lines c.args.transcripts.now)

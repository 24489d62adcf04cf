use Rattle.std.proofs.Common.{◌≡◌, ◌++◌, take}
use Rattle.std.specs.List.{flat_map}
use Rattle.gem_object.specs.texts.Lines.{text_of_lines}
use Rattle.gem_replies.specs.Report.{transcript_lines}
use Rattle.gem_replies.proofs.report.push_transcripts.Given as goal

abbrev pub invariant-loop-transcript : goal.invariant-loop-transcript
invariant-loop-transcript l = l.report.items ≡ l.initial.report.items ++ flat_map (λ x. text_of_lines (transcript_lines x)) (take l.transcript-index l.transcripts)

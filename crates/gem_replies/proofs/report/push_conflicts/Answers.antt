use Rattle.std.proofs.Common.{◌≡◌, ◌++◌, ◌∷◌, [], ap, ◌∙◌, length, arith}
use Rattle.gem_object.specs.texts.Lines.{text_of_lines}
use Rattle.gem_replies.specs.Report.{conflict_text}
use Rattle.gem_replies.proofs.Written.{all_written, line_by_item}
use Rattle.gem_replies.proofs.report.push_conflicts.Goals as goal

pub returns : goal.returns
returns c =
    let over : c.loop-conflict.conflict-index ≡ length c.args.conflicts.now = omega arith in
    all_written (λ x. text_of_lines (conflict_text x ∷ [])) c.args.conflicts.now _ _ _ over c.loop-conflict.invariant
    ∙ ap (λ text. c.args.report.now.items ++ text) (line_by_item conflict_text c.args.conflicts.now)

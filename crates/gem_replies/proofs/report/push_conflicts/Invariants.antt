use Rattle.std.proofs.Common.{◌≡◌, ◌++◌, ◌∷◌, [], take}
use Rattle.std.specs.List.{flat_map}
use Rattle.gem_object.specs.texts.Lines.{text_of_lines}
use Rattle.gem_replies.specs.Report.{conflict_text}
use Rattle.gem_replies.proofs.report.push_conflicts.Given as goal

abbrev pub invariant-loop-conflict : goal.invariant-loop-conflict
invariant-loop-conflict l = l.report.items ≡ l.initial.report.items ++ flat_map (λ x. text_of_lines (conflict_text x ∷ [])) (take l.conflict-index l.conflicts)

use Rattle.std.proofs.Common.{◌++◌, [], ◌∷◌, ap, ◌∙◌, codes}
use Rattle.std.proofs.lemmas.Result.{on_ok_weaker}
use Rattle.std.specs.Fmt.{decimal}
use Rattle.gem_replies.specs.Report.{mode_note}
use Rattle.gem_replies.proofs.Written.{nine_with_end}
use Rattle.gem_replies.proofs.report.push_entry.Goals as goal

pub returns : goal.returns
returns c =
    let noted = ap (λ note. decimal c.args.number ++ (codes " session " ++ (decimal c.args.entry.now.session ++ (codes " transaction "
    ++ (decimal c.args.entry.now.transaction ++ (codes " view " ++ (decimal c.args.entry.now.view ++ (note ++ (10 ∷ []))))))))) c.mode_note-note.ensures in
    let pieces = nine_with_end (decimal c.args.number) (codes " session ") (decimal c.args.entry.now.session) (codes " transaction ")
    (decimal c.args.entry.now.transaction) (codes " view ") (decimal c.args.entry.now.view) (mode_note c.args.entry.now.mode) (10 ∷ []) in
    on_ok_weaker c.push_text.result
    (λ is. is ∙ ap (λ text. c.args.report.now.items ++ text) (c.deref.ensures ∙ c.in_ok-line.ensures.ok ∙ noted ∙ pieces))
    c.push_text.ensures

use Rattle.std.proofs.Common.{◌∷◌, ap, ◌∙◌}
use Rattle.shell_words.proofs.Outcomes.{four_words}
use Rattle.shell_words.proofs.table.line_of.Goals as goal

pub returns-in-Some-rest-2 : goal.returns-in-Some-rest-2
returns-in-Some-rest-2 c =
    let one = rw c.in-Some.is at c.split_word.ensures in
    let two = rw c.in-Some-rest.is at c.split_word-2.ensures in
    let three = rw c.in-Some-rest-2.is at c.split_word-3.ensures in
    let words = one ∙ ap (λ ws. c.split_word.result.0.now ∷ ws) (two ∙ ap (λ ws. c.split_word-2.result.0.now ∷ ws) three) in
    four_words c.args.line.now _ _ _ c.in-Some-rest-2.field-0.now words

use Rattle.std.proofs.Common.{ap, sym, ◌∙◌, codes}
use Rattle.std.proofs.lemmas.Result.{IfOk-weaker}
use Rattle.std.specs.Fmt.{decimal}
use Rattle.gem_replies.specs.Line.{reply_words}
use Rattle.gem_replies.proofs.Written.{four_pieces}
use Rattle.gem_replies.proofs.report.words.Goals as goal

pub returns-in-Parse : goal.returns-in-Parse
returns-in-Parse c =
    IfOk-weaker c.format-in-Parse.result _ _
    (λ words is. is ∙ four_pieces (codes "parse P") (decimal c.in-Parse.rule) (codes " at ") (decimal c.in-Parse.at) ∙ ap reply_words (sym c.in-Parse.is))
    c.format-in-Parse.ensures.ok

pub returns-in-Unchanged : goal.returns-in-Unchanged
returns-in-Unchanged c =
    IfOk-weaker c.format-in-Unchanged.result _ _
    (λ words is. is ∙ four_pieces (codes "committed unchanged at ") (decimal c.in-Unchanged.at) (codes " view ") (decimal c.in-Unchanged.view) ∙ ap reply_words (sym c.in-Unchanged.is))
    c.format-in-Unchanged.ensures.ok

pub returns-in-LogFull : goal.returns-in-LogFull
returns-in-LogFull c =
    IfOk-weaker c.format-in-LogFull.result _ _
    (λ words is. is ∙ four_pieces (codes "log full at ") (decimal c.in-LogFull.length) (codes " by ") (decimal c.in-LogFull.size) ∙ ap reply_words (sym c.in-LogFull.is))
    c.format-in-LogFull.ensures.ok

pub returns-in-Committed : goal.returns-in-Committed
returns-in-Committed c =
    IfOk-weaker c.format-in-Committed.result _ _
    (λ words is. is ∙ four_pieces (codes "committed ") (decimal c.in-Committed.number) (codes " view ") (decimal c.in-Committed.view) ∙ ap reply_words (sym c.in-Committed.is))
    c.format-in-Committed.ensures.ok

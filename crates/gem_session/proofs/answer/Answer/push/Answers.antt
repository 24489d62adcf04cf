use Rattle.std.proofs.Common.{◌∙◌, ap, ◌++◌, ◌∷◌, []}
use Rattle.gem_meaning.specs.Session.{reply_with}
use Rattle.gem_session.proofs.Lines.{pushed}
use Rattle.gem_session.proofs.answer.Answer.push.Goals as goal

pub returns : goal.returns
returns c =
    c.in_ok-push.ensures.items ∙ ap (λ rs. rs ++ reply_with c.args.command c.args.self.line ∷ []) c.in_ok-push_shown.ensures
    ∙ pushed c.args.command c.args.replies.now.items c.args.self.shown c.args.self.line

use Rattle.std.proofs.Common.{◌≡◌, ◌∷◌}
use Rattle.gem_replies.specs.declared.reply.Line.TheVariants.{NoUser}
use Rattle.gem_meaning.specs.Session.{reply_with, not_logged_in}
use Rattle.gem_session.proofs.run.refuse.Given as goal

abbrev pub invariant-loop-index : goal.invariant-loop-index
invariant-loop-index g l = l.replies.items ≡ reply_with 0 (NoUser l.view) ∷ not_logged_in 1 l.index

use Rattle.gem_session.proofs.Refusals.{refused_more}
use Rattle.gem_session.proofs.run.refuse.Goals as goal

pub loop-index-preserved : goal.loop-index-preserved
loop-index-preserved g c =
    refused_more c.args.view c.loop-index.index c.loop-index.replies.items _ c.loop-index.invariant c.in_ok-push-2.ensures.items

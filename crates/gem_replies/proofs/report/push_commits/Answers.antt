use Rattle.std.proofs.Common.{◌+◌}
use Rattle.gem_replies.proofs.Written.{one_commit}
use Rattle.gem_replies.proofs.report.push_commits.Goals as goal

pub loop-index-preserved : goal.loop-index-preserved
loop-index-preserved c =
    let written = rw c.from.ensures at c.in_ok-push_entry.ensures in
    one_commit (c.args.first + 1) c.args.history.now c.loop-index.index c.index-history-index.result _ _ _ _ c.loop-index-test.true c.index-history-index.is c.loop-index.invariant written

use Rattle.std.proofs.Common.{◌<◌, [], length, arith}
use Rattle.gem_object.proofs.Joined.{one_added}
use Rattle.commit_check.specs.Conflicts.{conflicts_on, merged_on}
use Rattle.commit_check.proofs.Added.{three_added, merged_added}
use Rattle.commit_check.proofs.check.judge_all.Goals as goal

pub loop-oid-preserved : goal.loop-oid-preserved
loop-oid-preserved c =
    let below : c.loop-oid.oid-index < length c.args.names.now = omega arith in (
      one_added (conflicts_on (record { image = c.args.image.now; locks = c.args.locks.now }) c.args.transaction.now)
          c.args.names.now c.loop-oid.oid-index c.oid-item.result [] _ _ below c.oid-item.is c.loop-oid.invariant.0
          (three_added _ _ _ _ _ _ _ _ _ _
          c.in_ok-push_some.ensures c.in_ok-push_some-2.ensures c.in_ok-push_merge.ensures.conflicts
          c.change.ensures c.lock.ensures c.in_ok-merge.ensures),
      one_added (merged_on c.args.image.now c.args.transaction.now)
          c.args.names.now c.loop-oid.oid-index c.oid-item.result [] _ _ below c.oid-item.is c.loop-oid.invariant.1
          (merged_added _ _ _ _ _ c.in_ok-push_merge.ensures.merged c.in_ok-merge.ensures),
    )

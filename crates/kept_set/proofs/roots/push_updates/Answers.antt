use Rattle.std.proofs.Common.{◌≡◌, ◌<◌, length, arith}
use Rattle.gem_update.specs.References.{names_in_update}
use Rattle.gem_object.proofs.Joined.{one_added, all_added}
use Rattle.kept_set.proofs.roots.push_updates.Goals as goal

pub loop-update-preserved : goal.loop-update-preserved
loop-update-preserved c =
    let below : c.loop-update.update-index < length c.args.updates.now = omega arith in
    one_added names_in_update c.args.updates.now c.loop-update.update-index c.update-item.result _ _ _ below c.update-item.is c.loop-update.invariant c.in_ok-push_references.ensures

pub returns : goal.returns
returns c =
    let over : c.loop-update.update-index ≡ length c.args.updates.now = omega arith in
    all_added names_in_update c.args.updates.now c.loop-update.update-index _ _ over c.loop-update.invariant

use Rattle.std.proofs.Common.{◌<◌, length, arith}
use Rattle.plain_state.proofs.Grouping.{one_taken}
use Rattle.plain_state.proofs.groups.group.Goals as goal

pub loop-oid-preserved : goal.loop-oid-preserved
loop-oid-preserved c name =
    let below : c.loop-oid.oid-index < length c.args.updates.now = omega arith in
    one_taken c.args.updates.now c.loop-oid.oid-index c.loop-oid-item.result c.number.result c.in_ok-clone.field-0 name _ _
    below c.loop-oid-item.is c.number.ensures.number c.in_ok-clone.ensures.cases (c.loop-oid.invariant name)
    (c.in_ok-add.ensures name)

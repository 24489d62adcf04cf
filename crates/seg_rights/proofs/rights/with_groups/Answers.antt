use Rattle.std.proofs.Common.{arith}
use Rattle.seg_rights.proofs.WithGroups.{with_groups-drop}
use Rattle.seg_rights.proofs.rights.with_groups.Goals as goal

pub loop-name-preserved : goal.loop-name-preserved
loop-name-preserved g c =
    let step = with_groups-drop g.T.PartialEq.eq c.args.groups.now c.args.given.now c.loop-name.name-index c.loop-name-item.result c.loop-name.greatest c.loop-name-test.true c.loop-name-item.is in
    grind (arith, step, c.loop-name.invariant)

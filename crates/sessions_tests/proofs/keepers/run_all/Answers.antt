use Rattle.std.proofs.Common.{refl}
use Rattle.sessions_tests.proofs.InTurn.{one_session}
use Rattle.sessions_tests.proofs.keepers.run_all.Goals as goal

pub loop-index-preserved : goal.loop-index-preserved
loop-index-preserved g c =
    let port = c.run_session.ensures.port in
    let alone = port.alone refl in
    one_session c.args.stone.now.told c.loop-index.stone.told c.run_session.new.port.told c.loop-index.index
    c.loop-index.invariant port.opened alone.1

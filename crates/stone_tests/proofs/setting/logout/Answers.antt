use Rattle.std.proofs.Common.{sym, subst}
use Rattle.stone_tests.specs.Setting.{IsReady}
use Rattle.stone_tests.proofs.Ready.{leave_ready}
use Rattle.stone_tests.proofs.setting.logout.Goals as goal

pub logout-requires : goal.logout-requires
logout-requires g c = record { serves = c.requires.ready.serves c.args.session c.requires.first c.requires.last }

pub returns : goal.returns
returns g c = subst IsReady (sym c.logout.ensures.events)
    (leave_ready c.args.stone.now.told c.logout.result c.args.session c.requires.ready)

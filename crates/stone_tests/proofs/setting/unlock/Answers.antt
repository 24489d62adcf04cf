use Rattle.std.proofs.Common.{sym, subst}
use Rattle.stone_tests.specs.Setting.{IsReady}
use Rattle.stone_tests.proofs.Ready.{drop_ready}
use Rattle.stone_tests.proofs.setting.unlock.Goals as goal

pub unlock-requires : goal.unlock-requires
unlock-requires g c = record { serves = c.requires.ready.serves c.args.session c.requires.first c.requires.last }

pub returns : goal.returns
returns g c = subst IsReady (sym c.unlock.ensures.events)
    (drop_ready c.args.stone.now.told c.unlock.result c.args.session c.name.result c.requires.ready)

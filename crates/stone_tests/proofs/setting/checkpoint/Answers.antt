use Rattle.std.proofs.Common.{sym, subst}
use Rattle.stone_tests.specs.Setting.{IsReady}
use Rattle.stone_tests.proofs.Ready.{check_ready}
use Rattle.stone_tests.proofs.setting.checkpoint.Goals as goal

pub checkpoint-requires : goal.checkpoint-requires
checkpoint-requires g c = record { serves = c.requires.ready.serves c.args.session c.requires.first c.requires.last }

pub returns : goal.returns
returns g c = subst IsReady (sym c.checkpoint.ensures.events)
    (check_ready c.args.stone.now.told c.args.session _ c.checkpoint.result c.requires.ready)

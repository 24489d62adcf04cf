use Rattle.std.proofs.Common.{ℕ, IsSome, sym, subst}
use Rattle.std.specs.FinMap.{get}
use Rattle.gem_meaning.specs.Events.{standing}
use Rattle.stone_tests.specs.Setting.{IsReady}
use Rattle.stone_tests.proofs.Ready.{lock_ready}
use Rattle.stone_tests.proofs.setting.lock.Goals as goal

pub lock-requires-clause-serves : goal.lock-requires-clause-serves
lock-requires-clause-serves g c = c.requires.ready.serves c.args.session c.requires.first c.requires.last

pub lock-requires-clause-there : goal.lock-requires-clause-there
lock-requires-clause-there g c =
    subst (λ (oid : ℕ). IsSome (get (standing c.args.stone.now.told).image oid)) (sym c.name.ensures)
    (c.requires.ready.boxes c.args.counter c.requires.from c.requires.to)

pub returns : goal.returns
returns g c = subst IsReady (sym c.lock.ensures.events)
    (lock_ready c.args.stone.now.told c.args.session c.name.result c.lock.result c.requires.ready)

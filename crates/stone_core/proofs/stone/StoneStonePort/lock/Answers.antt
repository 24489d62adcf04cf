use Rattle.stone_core.proofs.Calls.{lock_alone}
use Rattle.stone_core.proofs.stone.StoneStonePort.lock.Goals as goal

pub returns-clause-says : goal.returns-clause-says
returns-clause-says g c =
    lock_alone c.args.self.now.told _ c.args.session c.args.oid c.args.kind c.lock-answer.result
    c.lock-answer.ensures.events c.lock-answer.ensures.answer

use Rattle.stone_core.proofs.Keeps.{held_in_check}
use Rattle.stone_core.proofs.stone.Stone.checkpoint.Goals as goal

pub returns-clause-holding : goal.returns-clause-holding
returns-clause-holding g c =
    held_in_check c.args.self.now.told _ c.args.self.now.started c.args.self.now.keeper _ c.keeps_order.ensures.kept
    c.check-answer.result c.check-answer.ensures.keeper c.check-answer.ensures.holding

use Rattle.stone_core.proofs.Keeps.{held_in_commit}
use Rattle.stone_core.proofs.stone.Stone.commit.Goals as goal

pub returns-clause-holding : goal.returns-clause-holding
returns-clause-holding g c =
    held_in_commit c.args.self.now.told _ c.args.self.now.started c.args.self.now.keeper _ c.keeps_order.ensures.kept
    c.answer-answer.result c.answer-answer.ensures.keeper c.answer-answer.ensures.holding

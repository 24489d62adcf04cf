use Rattle.gem_meaning.specs.Events.{standing}
use Rattle.stone_core.proofs.Calls.{goes_on_alone, own_answer, commit_alone}
use Rattle.stone_core.proofs.stone.StoneStonePort.commit.Goals as goal

pub returns-clause-says : goal.returns-clause-says
returns-clause-says g c =
    commit_alone c.args.self.now.told _ c.args.done.now c.commit_uncounted-answer.result
    c.commit_uncounted-answer.ensures.events c.commit_uncounted-answer.ensures.answer

pub returns-clause-port : goal.returns-clause-port
returns-clause-port g c =
    goes_on_alone c.args.done.now.session c.args.self.now.told _ _ c.commit_uncounted-answer.ensures.events
    (own_answer (standing c.args.self.now.told).number c.args.done.now c.commit_uncounted-answer.result) c.keeps_order.ensures.consistent

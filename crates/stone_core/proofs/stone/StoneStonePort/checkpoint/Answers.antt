use Rattle.gem_meaning.specs.Events.{standing}
use Rattle.stone_core.proofs.Calls.{goes_on_alone, own_check, check_alone}
use Rattle.stone_core.proofs.stone.StoneStonePort.checkpoint.Goals as goal

pub returns-clause-says : goal.returns-clause-says
returns-clause-says g c =
    check_alone c.args.self.now.told _ c.args.session c.checkpoint-answer.result c.checkpoint-answer.ensures.events c.checkpoint-answer.ensures.answer

pub returns-clause-port : goal.returns-clause-port
returns-clause-port g c =
    goes_on_alone c.args.session c.args.self.now.told _ _ c.checkpoint-answer.ensures.events
    (own_check c.args.session (standing c.args.self.now.told).number c.checkpoint-answer.result) c.keeps_order.ensures.consistent

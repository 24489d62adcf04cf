use Rattle.stone_core.proofs.Calls.{logout_alone}
use Rattle.stone_core.proofs.stone.StoneStonePort.logout.Goals as goal

pub returns-clause-says : goal.returns-clause-says
returns-clause-says g c = logout_alone c.args.self.now.told _ c.args.session c.logout.result c.logout.ensures.events c.logout.ensures.held

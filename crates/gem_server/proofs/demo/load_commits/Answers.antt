use Rattle.gem_server.proofs.TallyBehind.{few_commits}
use Rattle.gem_server.proofs.demo.load_commits.Goals as goal

pub returns-clause-bound : goal.returns-clause-bound
returns-clause-bound c = few_commits c.args.load.seed c.args.load.sessions c.args.load.rounds c.requires

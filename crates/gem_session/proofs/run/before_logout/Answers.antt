use Rattle.gem_session.proofs.Serving.{until_is}
use Rattle.gem_session.proofs.run.before_logout.Goals as goal

pub returns-clause-until : goal.returns-clause-until
returns-clause-until c = rw c.count_before_logout.ensures (until_is c.args.commands.now)

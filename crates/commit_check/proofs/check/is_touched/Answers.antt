use Rattle.commit_check.proofs.Used.{touched_is}
use Rattle.commit_check.proofs.check.is_touched.Goals as goal

pub returns : goal.returns
returns c = touched_is c.args.transaction.now c.args.oid c.contains.result c.contains.ensures

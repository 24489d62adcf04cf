use Rattle.std.proofs.Common.{rules, append_assoc}
use Rattle.gem_replies.proofs.report.push_conflict.Goals as goal

pub returns : goal.returns
returns c = search (rules, append_assoc)

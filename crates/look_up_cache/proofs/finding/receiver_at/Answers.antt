use Rattle.std.proofs.Common.{sym}
use Rattle.look_up_cache.proofs.finding.receiver_at.Goals as goal

pub returns-then-eq-clause-met : goal.returns-then-eq-clause-met
returns-then-eq-clause-met c = λ seen all. all c.args.at c.in_ok-receiver.receiver.now (sym c.in_ok-receiver.ensures)

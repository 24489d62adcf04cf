use Rattle.rc_queue.proofs.Kept.{nothing_lost, counted}
use Rattle.rc_queue.proofs.laws.nothing_lost.Goals as goal

pub returns-clause-items : goal.returns-clause-items
returns-clause-items g c = nothing_lost g.T.Ord.cmp

pub returns-clause-count : goal.returns-clause-count
returns-clause-count g c = counted g.T.Ord.cmp

use Rattle.rc_queue.proofs.Replay.{first_refusal}
use Rattle.rc_queue.proofs.laws.first_refusal.Goals as goal

pub returns-clause-removal : goal.returns-clause-removal
returns-clause-removal g c = λ view place updates at e. (first_refusal g.T.Ord.cmp view place updates at e).removes

pub returns-clause-none_before : goal.returns-clause-none_before
returns-clause-none_before g c = λ view place updates at e. (first_refusal g.T.Ord.cmp view place updates at e).before

use Rattle.rc_queue.proofs.Replay.{front_goes_once, since_refused}
use Rattle.rc_queue.proofs.laws.front_goes_once.Goals as goal

pub returns-clause-removed_since : goal.returns-clause-removed_since
returns-clause-removed_since g c = since_refused g.T.Ord.cmp

pub returns-clause-next_session : goal.returns-clause-next_session
returns-clause-next_session g c = front_goes_once g.T.Ord.cmp

use Rattle.gem_session.proofs.Logins.{since_any_event}
use Rattle.gem_session.proofs.laws.since_any_event.Goals as goal

pub returns : goal.returns
returns c = since_any_event

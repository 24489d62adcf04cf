use Rattle.gem_session.proofs.Made.{uncommitted_is_made}
use Rattle.gem_session.proofs.laws.uncommitted_is_made.Goals as goal

pub returns : goal.returns
returns c = uncommitted_is_made

use Rattle.session_laws.proofs.Claims.{says_claims}
use Rattle.session_laws.proofs.laws.claimed_once.Goals as goal

pub returns : goal.returns
returns c = says_claims

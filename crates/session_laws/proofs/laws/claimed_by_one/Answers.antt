use Rattle.session_laws.proofs.ClaimedByOne.{claimed_by_one, has_transcript}
use Rattle.session_laws.proofs.laws.claimed_by_one.Goals as goal

pub returns-clause-claimed : goal.returns-clause-claimed
returns-clause-claimed c = claimed_by_one

pub returns-clause-there : goal.returns-clause-there
returns-clause-there c = has_transcript

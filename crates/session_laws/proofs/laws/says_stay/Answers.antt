use Rattle.session_laws.proofs.Stays.{says_stay}
use Rattle.session_laws.proofs.laws.says_stay.Goals as goal

pub returns : goal.returns
returns c = says_stay

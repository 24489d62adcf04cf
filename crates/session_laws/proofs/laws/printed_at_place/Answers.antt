use Rattle.session_laws.proofs.Printed.{printed_is}
use Rattle.session_laws.proofs.laws.printed_at_place.Goals as goal

pub returns : goal.returns
returns c = printed_is

use Rattle.page_file.proofs.Rests.{held}
use Rattle.page_file.proofs.laws.rest_is_held.Goals as goal

pub returns : goal.returns
returns c = held

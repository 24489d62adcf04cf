use Rattle.gem_replies.proofs.Plain.{name_as_it_is}
use Rattle.gem_replies.proofs.laws.names_as_they_are.Goals as goal

pub returns : goal.returns
returns c = name_as_it_is

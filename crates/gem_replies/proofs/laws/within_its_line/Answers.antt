use Rattle.gem_replies.proofs.Shown.{text_is_shown}
use Rattle.gem_replies.proofs.laws.within_its_line.Goals as goal

pub returns : goal.returns
returns c = text_is_shown

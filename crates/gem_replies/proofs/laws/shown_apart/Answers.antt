use Rattle.gem_replies.proofs.Shown.{same_text}
use Rattle.gem_replies.proofs.laws.shown_apart.Goals as goal

pub returns : goal.returns
returns c = same_text

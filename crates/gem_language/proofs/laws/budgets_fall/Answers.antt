use Rattle.gem_language.proofs.Lists.{falls}
use Rattle.gem_language.proofs.laws.budgets_fall.Goals as goal

pub returns : goal.returns
returns c command setting world = falls command setting world

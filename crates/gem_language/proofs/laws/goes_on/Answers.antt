use Rattle.gem_language.proofs.Lists as lists
use Rattle.gem_language.proofs.laws.goes_on.Goals as goal

pub returns : goal.returns
returns c first rest setting world = lists.goes_on first rest setting world

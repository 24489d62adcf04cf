use Rattle.gem_language.proofs.Lists as lists
use Rattle.gem_language.proofs.laws.frame.Goals as goal

pub returns : goal.returns
returns c commands setting world other stays agree = lists.frame setting other stays commands world agree

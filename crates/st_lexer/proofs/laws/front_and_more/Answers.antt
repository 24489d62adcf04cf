use Rattle.st_lexer.proofs.Fronts as fronts
use Rattle.st_lexer.proofs.laws.front_and_more.Goals as goal

pub returns : goal.returns
returns c = λ text more seen left ts a b. fronts.front_and_more text more seen left ts a b

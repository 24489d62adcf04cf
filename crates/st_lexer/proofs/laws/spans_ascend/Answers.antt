use Rattle.st_lexer.proofs.Ascending.{within}
use Rattle.st_lexer.proofs.laws.spans_ascend.Goals as goal

pub returns : goal.returns
returns c = within

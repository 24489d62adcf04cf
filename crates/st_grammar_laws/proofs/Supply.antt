-- Each way on that the machine has is the way of some text.
use Rattle.st_grammar_laws.proofs.Exact.{Supplies, Stands}
use Rattle.st_grammar_laws.proofs.TextMinus.{continues}
use Rattle.st_grammar_laws.proofs.Closing.{stands_by}

pub supplies : Supplies
supplies = continues

pub stands : Stands
stands = stands_by supplies

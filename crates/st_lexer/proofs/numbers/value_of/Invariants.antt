use Rattle.st_lexer.proofs.Values.{ValueFrom}
use Rattle.st_lexer.proofs.numbers.value_of.Given as goal

abbrev pub invariant-loop-b : goal.invariant-loop-b
invariant-loop-b l = ValueFrom l.radix l.digits l.b-index l.value

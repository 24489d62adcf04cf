use Rattle.st_lexer.proofs.Scans.{InString}
use Rattle.st_lexer.proofs.quotes.string_end.Given as goal

abbrev pub invariant-loop-i : goal.invariant-loop-i
invariant-loop-i l = InString l.text l.i l.size l.quoted

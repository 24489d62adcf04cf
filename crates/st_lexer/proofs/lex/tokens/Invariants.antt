use Rattle.std.proofs.Common.{◌-◌, length}
use Rattle.st_lexer.proofs.Reading.{ReadTo}
use Rattle.st_lexer.proofs.lex.tokens.Given as goal

abbrev pub invariant-loop-at : goal.invariant-loop-at
invariant-loop-at l = ReadTo l.text l.at l.tokens.items

abbrev pub decreases-loop-at : goal.decreases-loop-at
decreases-loop-at l = length l.text - l.at

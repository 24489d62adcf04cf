use Rattle.std.proofs.Common.{◌≡◌, drop}
use Rattle.st_grammar.specs.Tokens.{comment_end, later}
use Rattle.st_lexer.proofs.quotes.comment_end.Given as goal

abbrev pub invariant-loop-i : goal.invariant-loop-i
invariant-loop-i l = comment_end l.text ≡ later l.i (comment_end (drop l.i l.text))
